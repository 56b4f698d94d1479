-- How much longer a text gets where each byte adds its own, said once for all that is made byte by byte. Assumes nothing.
use Rattle.std.specs.Prelude.{if◌then◌else◌}
use mathlib.Core.Path.{◌≡◌}
use mathlib.Core.Bool.{Bool, true, false}
use mathlib.Core.List.{List, [], ◌∷◌}
use Prim.Native.Nat.{ℕ, zero, suc, ◌+◌, ◌*◌, ◌≤◌}
use native.Mathlib.Nat.{mul-suc, mul-zero}
use native.Mathlib.Omega.{arith}
use lib.ListN.{length, replicate}

-- f makes at most, or exactly, k bytes more where a byte more comes first
module _ (f : List ℕ → List ℕ) (k : ℕ) (none : length (f []) ≡ 0) where
  pub grows : ((b : ℕ) (s : List ℕ) → length (f (b ∷ s)) ≤ k + length (f s)) → (s : List ℕ) → length (f s) ≤ k * length s
  grows h [] = omega arith
  grows h (b ∷ s) = let r = grows h s in let m = h b s in let e = mul-suc k (length s) in omega arith

  pub reaches : (b : ℕ) → ((s : List ℕ) → length (f (b ∷ s)) ≡ k + length (f s)) → (n : ℕ) → length (f (replicate n b)) ≡ k * n
  reaches b h zero = let e = mul-zero k in omega arith
  reaches b h (suc n) = let r = reaches b h n in let m = h (replicate n b) in let e = mul-suc k n in omega arith

-- of two texts, whichever it is
pub either : (c : Bool) (k : ℕ) (x y : List ℕ) → length x ≤ k → length y ≤ k → length (if c then x else y) ≤ k
either true k x y p q = p
either false k x y p q = q
