-- Said for inner functions, no part of what a URL becomes: the marks of many bytes. Assumes nothing.
use Rattle.std.specs.Prelude.{Bool, not, ◌||◌, List, [], ◌∷◌, ℕ, zero, suc, ◌+◌, ◌*◌, ◌/◌, drop, get_or}
use Rattle.std.specs.Int.Count.{count_trailing_zeros}
use Rattle.lent.specs.Bytes.{between}
use Rattle.url_byte.specs.Private.{mark_of}

-- what the cheap test does not let pass: all but letters, digits and ( ) * + , - . / : ;
abbrev pub is_odd : ℕ → Bool
is_odd b = not (between 40 59 b || between 65 90 b || between 97 122 b)

-- the marks of the first n bytes of l
unfoldable pub marks_of : ℕ → List ℕ → List ℕ
marks_of zero l = []
marks_of (suc n) l = mark_of (get_or l 0 0) (get_or l 1 0) (get_or l 2 0) ∷ marks_of n (drop 1 l)

-- bytes in a number, the first lowest
unfoldable pub word_of : List ℕ → ℕ
word_of [] = 0
word_of (m ∷ ms) = m + word_of ms * 256

-- how many of a word's eight bytes are 0 before the first that is not
unfoldable pub run_of : ℕ → ℕ
run_of w = count_trailing_zeros 64 w / 8
