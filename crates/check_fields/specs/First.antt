-- The first event that breaks a rule. Assumes nothing.
use Rattle.std.specs.Prelude.{Bool, List, [], ◌∷◌, ℕ, ◌+◌, if◌then◌else◌, Option, Some, None}
use Rattle.event.specs.declared.Event.{Event}

-- its place, where the first of the events has place i
unfoldable pub first_break : (Event → Bool) → ℕ → List Event → Option ℕ
first_break rule i [] = None
first_break rule i (e ∷ es) = if rule e then first_break rule (i + 1) es else Some i
