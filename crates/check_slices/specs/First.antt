-- The first event that breaks a rule. Assumes nothing.
use Rattle.std.specs.Prelude.{Bool, List, [], ◌∷◌, ℕ, ◌+◌, if◌then◌else◌, Option, Some, None}
use Rattle.event.specs.declared.Event.{Event}

module _ {S : Type 0} (holds : S → Event → Bool) (behind : S → Event → S) where
  -- the place of the first event, from i on, for which the rule does not hold in its state
  unfoldable pub first_from : (i : ℕ) → S → List Event → Option ℕ
  first_from i s [] = None
  first_from i s (e ∷ es) = if holds s e then first_from (i + 1) (behind s e) es else Some i
