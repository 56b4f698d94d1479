-- What the functions on tables promise beside what the context's do. Assumes nothing.
use Rattle.std.specs.Prelude.{◌≡◌, List, ℕ, ◌-◌, length}
use Rattle.std.proofs.Math.Option.{some}
use Rattle.event.specs.declared.Event.{Event}
use Rattle.machine.specs.State.{State}
use Rattle.machine.specs.Turn.{Turn}
use Rattle.state_context.specs.declared.Context.{Context}
use Rattle.state_context.specs.Rel.{Rel}

-- a turn in which this event is handled
pub record IsEvent (e : Event) (t : Turn) : Type 0 where
  pub event-is : t.event ≡ e

-- so many cells are missing in the row, in a table
pub record Lacks (c : Context) (n : ℕ) : Type 0 where
  pub lacks : (captures out starts aligns : List ℕ) (s : State) → Rel c captures out starts s → s.table.aligns ≡ some aligns → n ≡ length aligns - s.table.column
