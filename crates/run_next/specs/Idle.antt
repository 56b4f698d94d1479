-- What is known of an event without a handler. Assumes nothing.
use Rattle.std.specs.Prelude.{◌≡◌, Bool, true, ℕ}
use Rattle.event.specs.declared.Event.{Event}
use Rattle.machine.specs.Command.{nothing}
use Rattle.dispatch_turns.specs.Turns.{command_for}

-- where the answer is yes, an event of this kind and name does nothing
pub record Idles (kind name : ℕ) (r : Bool) : Type 0 where
  pub idles : (e : Event) → e.kind ≡ kind → e.name ≡ name → r ≡ true → command_for e ≡ nothing
