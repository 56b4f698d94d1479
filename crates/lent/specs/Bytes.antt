-- Words that the definitions share: tests on bytes, texts as bytes, and what is made of each byte. Assumes nothing.
use Rattle.std.specs.Prelude.{Bool, true, false, ◌&&◌, ◌||◌, List, [], ◌∷◌, ◌++◌, ℕ, ◌+◌, ◌-◌, ◌/◌, ◌%◌, ◌^◌, eqb, leb, if◌then◌else◌}
use Prim.Native.Char.{code}
use Prim.Native.String as S
use Prim.Native.String.{String}

-- a text of ASCII characters, as its bytes
abbrev pub bytes : String → List ℕ
bytes S.[] = []
bytes (S.◌∷◌ x xs) = code x ∷ bytes xs

-- from lo to hi, both included
abbrev pub between : ℕ → ℕ → ℕ → Bool
between lo hi b = leb lo b && leb b hi

-- whether b is one of ms
abbrev pub one_of : List ℕ → ℕ → Bool
one_of [] b = false
one_of (m ∷ ms) b = eqb b m || one_of ms b

abbrev pub all : (ℕ → Bool) → List ℕ → Bool
all f [] = true
all f (b ∷ bs) = f b && all f bs

abbrev pub any : (ℕ → Bool) → List ℕ → Bool
any f [] = false
any f (b ∷ bs) = f b || any f bs

-- whether two byte strings are the same
abbrev pub same : List ℕ → List ℕ → Bool
same [] [] = true
same [] (y ∷ ys) = false
same (x ∷ xs) [] = false
same (x ∷ xs) (y ∷ ys) = eqb x y && same xs ys

-- whether s is one of ts
abbrev pub listed : List (List ℕ) → List ℕ → Bool
listed [] s = false
listed (t ∷ ts) s = same s t || listed ts s

-- what f makes of each byte, one behind the other
abbrev pub each : (ℕ → List ℕ) → List ℕ → List ℕ
each f [] = []
each f (b ∷ bs) = f b ++ each f bs

abbrev pub mapped : (ℕ → ℕ) → List ℕ → List ℕ
mapped f [] = []
mapped f (b ∷ bs) = f b ∷ mapped f bs

-- ASCII letters, the others kept
abbrev pub lower : ℕ → ℕ
lower b = if between 65 90 b then b + 32 else b

abbrev pub upper : ℕ → ℕ
upper b = if between 97 122 b then b - 32 else b

-- ASCII letters and digits
abbrev pub is_digit : ℕ → Bool
is_digit b = between 48 57 b

abbrev pub is_alnum : ℕ → Bool
is_alnum b = is_digit b || between 65 90 b || between 97 122 b

-- whether bit k of a mask is set
abbrev pub has_bit : ℕ → ℕ → Bool
has_bit mask k = eqb (mask / 2 ^ k % 2) 1
