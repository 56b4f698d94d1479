-- The digits of a word, two bits each. Assumes nothing.
use Rattle.std.specs.Prelude.{◌≡◌, ℕ, ◌*◌, ◌/◌, ◌%◌, ◌^◌}

unfoldable pub digit_of : (k w : ℕ) → ℕ
digit_of k w = w / 2 ^ (2 * k) % 4

-- the digit at k is x, and any other is as it was
pub record Placed (k x w r : ℕ) : Type 0 where
  pub here : digit_of k r ≡ x
  pub others : (j : ℕ) → (j ≡ k → ⊥) → digit_of j r ≡ digit_of j w
