-- A number written byte by byte: what is left to write. Assumes nothing.
use Rattle.std.proofs.Common.{◌≡◌, List, [], ◌∷◌, ℕ, suc, ◌+◌, ◌-◌, ◌/◌, ◌%◌, ◌≤◌, ◌<◌, arith}
use Rattle.std.proofs.Math.Nat.{sub-zero}
use Rattle.lent.specs.declared.Writer.{Writer}
use Rattle.lent.specs.Writer.{Writes}
use Rattle.lent.proofs.Writing.{Due, all, step, done}
use Rattle.little.specs.Little.{little}

pub little-none : (v : Writer) (size x : ℕ) → Due (little size x) v (little (size - 0) x) v
little-none v size x = rw sub-zero all

module _ {u v : Writer} {s₀ : List ℕ} (size i x : ℕ) (p : Due s₀ u (little (size - i) x) v) where
  pub little_step : {w : Writer} → i < size → Writes (x % 256 ∷ []) v w → Due s₀ u (little (size - (i + 1)) (x / 256)) w
  unfolding little
  little_step h q = let n : size - i ≡ suc (size - (i + 1)) = omega arith in step (rw n) p q

  pub little-end : size ≤ i → Writes s₀ u v
  unfolding little
  little-end h = let n : size - i ≡ 0 = omega arith in done (rw n) p
