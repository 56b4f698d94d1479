-- What the check's code goes by: sums in lanes. Assumes nothing.
use Rattle.std.specs.Prelude.{List, [], ◌∷◌, ℕ, ◌+◌}

unfoldable pub sum_of : List ℕ → ℕ
sum_of [] = 0
sum_of (a ∷ l) = a + sum_of l

-- each number with the one at its place added, where there is one
unfoldable pub added : List ℕ → List ℕ → List ℕ
added l [] = l
added [] (b ∷ r) = []
added (a ∷ l) (b ∷ r) = (a + b) ∷ added l r
