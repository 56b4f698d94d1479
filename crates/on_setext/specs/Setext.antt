-- What handlers of setext headings are told of a turn. Assumes nothing.
use Rattle.std.specs.Prelude.{◌≡◌, Bool, List, ℕ, eqb}
use Rattle.std.proofs.Math.Option.{some}
use Rattle.std.proofs.Math.ListN.{get_elem?}
use Rattle.event.specs.declared.Event.{Event}
use Rattle.machine.specs.Turn.{Turn}

-- whether the first byte of an event's slice is a dash, where it has one
pub record TellsDash (text : List ℕ) (e : Event) (x : Bool) : Type 0 where
  pub dash-is : (a : ℕ) → get_elem? text e.from.0 ≡ some a → eqb a 45 ≡ x

-- a turn of an underline of dashes, or of another
pub record Underlined (x : Bool) (t : Turn) : Type 0 where
  pub dashes : TellsDash t.text t.event x
