-- What is written where the machine may stop, and what an inner function reads. Assumes nothing.
use Rattle.std.specs.Prelude.{Option, Some, None, List, [], ℕ, if◌then◌else◌}
use Rattle.character_reference.specs.Reference.{are_digits, from_digits}
use Rattle.machine.specs.Outcome.{Outcome, stop, go}

-- the bytes, and nothing where it stops
abbrev pub written : Outcome (List ℕ) → List ℕ
written stop = []
written (go s) = s

-- of an item value, 1 to 9 digits: no part of a promise
unfoldable pub number_in : List ℕ → Option ℕ
number_in s = if are_digits 10 9 s then Some (from_digits 10 s) else None
