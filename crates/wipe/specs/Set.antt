-- What the inner functions look for: no part of a promise. Assumes nothing.
use Rattle.std.specs.Prelude.{Bool, not, ℕ, eqb}

-- whether a byte is not zero
abbrev pub is_set : ℕ → Bool
is_set b = not (eqb b 0)
