-- What the inner function makes: no part of a promise. Assumes nothing.
use Rattle.std.specs.Prelude.{Bool, true, false, ℕ, ◌+◌, ◌*◌}
use Rattle.packed.specs.declared.Tight.{Tight}

abbrev pub bit_of : Bool → ℕ
bit_of true = 1
bit_of false = 0

abbrev pub wider : Bool → Tight → Tight
wider x t = record { bits = t.bits * 2 + bit_of x; count = t.count + 1 }
