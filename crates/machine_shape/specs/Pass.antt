-- The turns of a pass along a forest. Assumes nothing.
use Rattle.std.specs.Prelude.{◌≡◌, false, List, ◌∷◌, ℕ, suc, eqb}
use Rattle.event.specs.declared.Event.{Event}
use Rattle.check_rules.specs.Elements.{Forest, nil, element}
use Rattle.machine.specs.declared.Options.{Options}
use Rattle.machine.specs.Turn.{Turn}
use Rattle.machine.specs.Test.{is_empty}

-- the place behind a forest, and the events before that
abbrev pub placed : Forest → ℕ → ℕ
placed nil p = p
placed (element a f z g) p = placed g (suc (placed f (suc p)))

abbrev pub behind : Forest → List Event → List Event
behind nil es = es
behind (element a f z g) es = behind g (z ∷ behind f (a ∷ es))

-- no definition is in it
abbrev pub NoDefinition : Forest → Type 0
NoDefinition nil = Unit {0}
NoDefinition (element a f z g) = (eqb a.name 53 ≡ false) × NoDefinition f × NoDefinition g

module _ (text : List ℕ) (o : Options) where
  -- an event's turn: at a place, behind these events, before those
  abbrev pub turn_at : ℕ → List Event → Event → List Event → Turn
  turn_at p before e es = record { text = text; options = o; event = e; place = p; before = before; last = is_empty es }
