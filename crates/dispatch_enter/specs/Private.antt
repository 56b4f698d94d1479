-- What the groups of names do: no part of a promise. Assumes nothing.
use Rattle.std.specs.Prelude.{◌≡◌, Bool, true}
use Rattle.event.specs.declared.Event.{Event}
use Rattle.machine.specs.Turn.{Turn}

-- a turn of this event, in which dangerous HTML is allowed or not
pub record Of (e : Event) (allowed : Bool) (t : Turn) : Type 0 where
  pub event-is : t.event ≡ e
  pub allowed-is : t.options.allow_dangerous_html ≡ allowed
