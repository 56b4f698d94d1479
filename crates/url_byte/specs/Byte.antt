-- The bytes of a URL: which stay, and what the others become (`sanitize_uri.rs`). Assumes nothing.
use Rattle.std.specs.Prelude.{Bool, false, ◌&&◌, ◌||◌, List, [], ◌∷◌, ℕ, ◌+◌, ◌/◌, ◌%◌, eqb, ltb, if◌then◌else◌}
use Rattle.lent.specs.Bytes.{between, is_alnum}

-- RULES R11.1: the bytes that stay as they are
abbrev pub is_kept : ℕ → Bool
is_kept b = eqb b 33 || eqb b 35 || eqb b 36 || between 38 59 b || eqb b 61 || between 63 90 b || eqb b 95 || between 97 122 b || eqb b 126

unfoldable pub two_alnum : List ℕ → Bool
two_alnum [] = false
two_alnum (a ∷ []) = false
two_alnum (a ∷ b ∷ bs) = is_alnum a && is_alnum b

-- whether the first byte stays: a % does where two ASCII letters or digits follow
unfoldable pub stays : List ℕ → Bool
stays [] = false
stays (b ∷ bs) = if eqb b 37 then two_alnum bs else is_kept b

-- 0 to 9, A to F
unfoldable pub hex_upper : ℕ → ℕ
hex_upper n = if ltb n 10 then 48 + n else 55 + n

-- %XX
unfoldable pub percent : ℕ → List ℕ
percent b = 37 ∷ hex_upper (b / 16) ∷ hex_upper (b % 16) ∷ []

unfoldable pub url_byte : Bool → ℕ → List ℕ
url_byte keep b = if keep then b ∷ [] else percent b
