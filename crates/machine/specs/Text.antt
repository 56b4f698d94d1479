-- What is written of a number, a list's start, a column's alignment and code text (RULES R9.13, R9.14). Assumes nothing.
use Rattle.std.specs.Prelude.{Bool, true, false, not, ◌&&◌, List, [], ◌∷◌, ◌++◌, ℕ, zero, suc, ◌+◌, ◌-◌, ◌/◌, ◌%◌, eqb, ltb, length, take, if◌then◌else◌}
use Rattle.std.proofs.Math.Option.{Option, none, some}
use Rattle.lent.specs.Bytes.{bytes, all}
use Rattle.character_reference.specs.Reference.{are_digits, from_digits}
use Rattle.machine.specs.Outcome.{Outcome, stop, go}
use Rattle.machine.specs.Buffers.{last_or}

-- ---- numbers

-- the digits of n in front of some: k of them at most
unfoldable pub digits_from : (k n : ℕ) → List ℕ → List ℕ
digits_from zero n behind = behind
digits_from (suc k) n behind = elim (ltb n 10) [ true ↦ (48 + n) ∷ behind | false ↦ digits_from k (n / 10) ((48 + n % 10) ∷ behind) ]

-- in decimal
unfoldable pub decimal : ℕ → List ℕ
decimal n = digits_from (suc n) n []

-- ---- lists and tables

-- 1 gives no attribute
abbrev pub start_text : ℕ → List ℕ
start_text n = if eqb n 1 then [] else bytes " start=\"" ++ decimal n ++ bytes "\""

-- of an item value, 1 to 9 digits
unfoldable pub start_of : List ℕ → Outcome (List ℕ)
start_of b = if are_digits 10 9 b then go (start_text (from_digits 10 b)) else stop

-- 0 none, 1 left, 2 right, 3 center
abbrev pub align_text : ℕ → List ℕ
align_text zero = []
align_text (suc zero) = bytes " align=\"left\""
align_text (suc (suc zero)) = bytes " align=\"right\""
align_text (suc (suc (suc n))) = bytes " align=\"center\""

-- ---- code text

abbrev pub starts_pipe : List ℕ → Bool
starts_pipe [] = false
starts_pipe (b ∷ bs) = eqb b 124

-- \| becomes |
unfoldable pub unescape_pipes : List ℕ → List ℕ
unescape_pipes [] = []
unescape_pipes (b ∷ bs) = (if eqb b 92 && starts_pipe bs then [] else b ∷ []) ++ unescape_pipes bs

-- a space goes at each end, where both ends have one and not all are spaces
unfoldable pub trim_code : List ℕ → List ℕ
trim_code [] = []
trim_code (b ∷ bs) = if eqb b 32 && eqb (last_or b bs) 32 && not (all (eqb 32) bs) then take (length bs - 1) bs else b ∷ bs

-- in a table the pipes first
unfoldable pub code_of : (aligns : Option (List ℕ)) → List ℕ → List ℕ
code_of none b = trim_code b
code_of (some aligns) b = trim_code (unescape_pipes b)
