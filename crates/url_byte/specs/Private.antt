-- Said for inner functions, no part of what a byte becomes. Assumes nothing.
use Rattle.std.specs.Prelude.{Bool, not, ◌&&◌, ◌||◌, List, [], ◌∷◌, ℕ, eqb, ltb, if◌then◌else◌}
use Rattle.lent.specs.Bytes.{between, is_alnum}
use Rattle.url_byte.specs.Byte.{stays, url_byte}

-- a byte that ends a run: one that does not stay, and & and ', which HTML may encode
abbrev pub is_apart : ℕ → Bool
is_apart b = not (eqb b 33 || eqb b 35 || eqb b 36 || between 40 59 b || eqb b 61 || between 63 90 b || eqb b 95 || between 97 122 b || eqb b 126)

-- 0 where a run may move b as it is, by the two bytes behind it: a % before two letters or digits too; 1 elsewhere
unfoldable pub mark_of : ℕ → ℕ → ℕ → ℕ
mark_of b c d = if is_apart b && not (eqb b 37 && (is_alnum c && is_alnum d)) then 1 else 0

-- the kept bytes as bits: those below 64, and those up to 127
unfoldable pub kept_mask : ℕ → ℕ
kept_mask b = if ltb b 64 then 0xafffffda00000000 else (if ltb b 128 then 0x47fffffe87ffffff else 0)

-- what the first byte becomes, looking on behind it
unfoldable pub byte_of : List ℕ → List ℕ
byte_of [] = []
byte_of (b ∷ bs) = url_byte (stays (b ∷ bs)) b
