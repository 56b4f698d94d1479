-- UTF-8 by RFC 3629. Assumes nothing.
use Rattle.std.specs.Prelude.{Bool, ◌&&◌, ◌||◌, List, [], ◌∷◌, ◌++◌, ℕ, ◌+◌, ◌/◌, ◌%◌, T, ltb, length, get_or, if◌then◌else◌}
use Rattle.lent.specs.Bytes.{between}
use Rattle.utf8.specs.declared.Due.{Due}
use Rattle.utf8.specs.declared.Due.TheVariants.{First}
pub use Rattle.utf8.specs.Table.{next, is_whole}
unfoldable pub use Rattle.utf8.specs.Table.{after_first, length_of}

-- ---- a text, byte by byte

-- what is due behind a text
abbrev pub run : Due → List ℕ → Due
run d [] = d
run d (b ∷ bs) = run (next d b) bs

unfoldable pub is_utf8 : List ℕ → Bool
is_utf8 s = is_whole (run First s)

-- ---- characters in a text

-- a character of its own
abbrev pub is_ascii : ℕ → Bool
is_ascii b = ltb b 0x80

-- a byte that goes on a character
abbrev pub is_continuation : ℕ → Bool
is_continuation b = between 0x80 0xBF b

-- whether the place i of a text is inside a character: the byte that stands there goes on a character
unfoldable pub inside : List ℕ → ℕ → Bool
inside s i = ltb i (length s) && is_continuation (get_or s i 0)

-- ---- section 3: the bytes of a character

-- the codes that are characters: no surrogate, and none past 10FFFF
abbrev pub is_scalar : ℕ → Bool
is_scalar c = ltb c 0xD800 || between 0xE000 0x10FFFF c

-- a tail with the lowest six bits of n
abbrev pub tail : ℕ → ℕ
tail n = 0x80 + n % 64

-- the bytes of the character with the code c
unfoldable pub char_of : ℕ → List ℕ
char_of c =
    if ltb c 0x80 then c ∷ []
    else (if ltb c 0x800 then (0xC0 + c / 64) ∷ tail c ∷ []
    else (if ltb c 0x10000 then (0xE0 + c / 4096) ∷ tail (c / 64) ∷ tail c ∷ []
    else (0xF0 + c / 262144) ∷ tail (c / 4096) ∷ tail (c / 64) ∷ tail c ∷ []))

-- U+FFFD
abbrev pub replacement : List ℕ
replacement = 0xEF ∷ 0xBF ∷ 0xBD ∷ []

-- a text that is characters, one behind the other: what `is_utf8` decides
pub data Characters : List ℕ → Type 0 where
  none : Characters []
  one : (c : ℕ) {t : List ℕ} → T (is_scalar c) → Characters t → Characters (char_of c ++ t)
