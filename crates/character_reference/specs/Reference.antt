-- Character references, RULES R13 (character_reference.rs): what the value of one stands for. Assumes nothing.
use Rattle.std.specs.Prelude.{Option, Some, None, Bool, true, false, ◌&&◌, ◌||◌, List, [], ◌∷◌, ℕ, ◌+◌, ◌-◌, ◌*◌, ltb, leb, eqb, length, if◌then◌else◌}
use Rattle.std.proofs.Math.Option.{Option as Maybe, none, some}
use Rattle.lent.specs.Bytes.{bytes, between, same, all}
use Rattle.character_reference.specs.declared.Marker.{Marker}
use Rattle.character_reference.specs.declared.Marker.TheVariants.{Named, Decimal, Hexadecimal}
use Rattle.character_reference.specs.declared.Names.{Names}
use Rattle.character_reference.specs.declared.Names.TheVariants.{Html4, Html5}
use Rattle.character_reference.specs.Names.{names}
use Rattle.utf8.specs.Utf8.{char_of}
unfoldable pub use Rattle.character_reference.specs.Written.{written_of}

-- ---- numbers

-- the numbers that give U+FFFD
unfoldable pub is_replaced : ℕ → Bool
is_replaced c = leb c 0x8 || eqb c 0xB || between 0xE 0x1F c || between 0x7F 0x9F c || between 0xD800 0xDFFF c || ltb 0x10FFFF c

-- the code point that a number gives
unfoldable pub code_of : ℕ → ℕ
code_of c = if is_replaced c then 0xFFFD else c

-- 0 to 9, A to F and a to f; 16, no digit's value, for any other byte
unfoldable pub digit_value : ℕ → ℕ
digit_value b = if between 48 57 b then b - 48 else (if between 65 70 b then b - 55 else (if between 97 102 b then b - 87 else 16))

-- a digit of base 10 or 16
abbrev pub is_digit_of : ℕ → ℕ → Bool
is_digit_of base b = ltb (digit_value b) base

-- 1 to most digits
abbrev pub are_digits : ℕ → ℕ → List ℕ → Bool
are_digits base most s = between 1 most (length s) && all (is_digit_of base) s

-- what the digits say, behind digits that say n
abbrev pub number_from : ℕ → ℕ → List ℕ → ℕ
number_from base n [] = n
number_from base n (b ∷ bs) = number_from base (n * base + digit_value b) bs

abbrev pub from_digits : ℕ → List ℕ → ℕ
from_digits base s = number_from base 0 s

unfoldable pub numeral_of : ℕ → ℕ → List ℕ → Option ℕ
numeral_of base most s = if are_digits base most s then Some (code_of (from_digits base s)) else None

-- ---- names

-- the first entry of a table that has this name
unfoldable pub lookup : List (List ℕ × ℕ) → List ℕ → Option ℕ
lookup [] s = None
lookup (entry ∷ entries) s = if same s entry.0 then Some entry.1 else lookup entries s

-- by the names option: HTML 4.01 has two of them otherwise
unfoldable pub names_of : Names → List (List ℕ × ℕ)
names_of Html4 = (bytes "lang", 0x2329) ∷ (bytes "rang", 0x232A) ∷ names
names_of Html5 = names

unfoldable pub named_of : Names → List ℕ → Option ℕ
named_of option s = lookup (names_of option) s

-- ---- references

-- the code point of a value, by the newest marker before it; None where the slice breaks its rule
unfoldable pub value_of : Names → Marker → List ℕ → Option ℕ
value_of option Named s = named_of option s
value_of option Decimal s = numeral_of 10 7 s
value_of option Hexadecimal s = numeral_of 16 6 s

abbrev pub stands_for : Option ℕ → Maybe (List ℕ)
stands_for (Some c) = some (char_of c)
stands_for None = none

-- the bytes that a value stands for; none where the slice breaks its rule
unfoldable pub reference_for : Names → Marker → List ℕ → Maybe (List ℕ)
reference_for option marker s = stands_for (value_of option marker s)

-- and as the crate has them. Whether there are any is the same for both options
abbrev pub reference_of : Marker → List ℕ → Maybe (List ℕ)
reference_of marker s = reference_for Html5 marker s

abbrev pub is_some : Maybe (List ℕ) → Bool
is_some none = false
is_some (some s) = true

-- the bytes that are written: where there are none, nothing
abbrev pub or_nothing : Maybe (List ℕ) → List ℕ
or_nothing none = []
or_nothing (some s) = s
