-- Where elements pair, definitions begin before they end. Assumes nothing.
use Rattle.std.specs.Prelude.{if◌then◌else◌}
use mathlib.Core.Path.{◌≡◌, refl}
use mathlib.Core.Bool.{Bool, true, false, ◌||◌}
use mathlib.Core.List.{List, ◌∷◌}
use lib.Dec.{eqb}
use Rattle.event.specs.declared.Event.{Event}
use Rattle.event.specs.Event.{is_enter}
use Rattle.check_rules.specs.Elements.{Forest, nil, element, list_of, Paired}
use Rattle.machine.specs.Run.{are_begun}

pub begun : (f : Forest) (es : List Event) → Paired f → are_begun es ≡ true → are_begun (list_of f es) ≡ true
unfolding are_begun
begun nil es p h = h
begun (element a f z g) es p h =
    at (eqb a.name 53) refl (λ q. begun f (z ∷ list_of g es) p.1 (rw (p.0.2, q) (begun g es p.2 h)))
  where
    at : (x : Bool) → eqb a.name 53 ≡ x → (eqb a.name 53 ≡ false → are_begun (list_of f (z ∷ list_of g es)) ≡ true) → (if x || false then is_enter a else are_begun (list_of f (z ∷ list_of g es))) ≡ true
    at true q k = p.0.0
    at false q k = k q
