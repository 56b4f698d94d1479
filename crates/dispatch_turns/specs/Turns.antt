-- The turn of the event at an index, its command, and what a dispatcher of the context does. Assumes nothing.
use Rattle.std.specs.Prelude.{◌≡◌, Bool, true, List, ℕ, suc, ◌≤◌, eqb, get_or}
use Rattle.event.specs.declared.Event.{Event}
use Rattle.event.specs.Event.{count_of, is_enter, event_at}
use Rattle.machine.specs.declared.Options.{Options}
use Rattle.machine.specs.Turn.{Turn}
use Rattle.machine.specs.Command.{Command, nothing}
use Rattle.machine.specs.Handlers.{rows, on, command_in}
use Rattle.dispatch_look_back.specs.Behind.{events_before}
use Rattle.state_context.specs.declared.Context.{Context}
use Rattle.state_context.specs.Rel.{Turns}
use Rattle.state_whole.specs.Quiet.{is_quiet}

pub record TurnAt (text events : List ℕ) (o : Options) (i : ℕ) (t : Turn) : Type 0 where
  pub text-is : t.text ≡ text
  pub options-are : t.options ≡ o
  pub event-is : t.event ≡ event_at events i
  pub before-is : t.before ≡ events_before events i
  pub last-is : t.last ≡ eqb (suc i) (count_of events)

-- the command of an event: that of its turn
unfoldable pub command_for : Event → Command
command_for e = command_in (is_enter e) (get_or rows e.name (on nothing nothing))

-- The same for the event's own command, where that leaves media, labels, the setext text and what is kept alone.
pub record Dispatches (View : Turn → Type 0) (e : Event) (c : Context) (captures starts out : List ℕ) (r : Context) (captures' starts' out' : List ℕ) : Type 0 where
  pub dispatches : is_quiet (command_for e) ≡ true → Turns View (command_for e) c captures starts out r captures' starts' out'

-- The same for an enter (x true) or exit whose name is one of these: a group of a dispatcher.
pub record Among (x : Bool) (lo hi : ℕ) (View : Turn → Type 0) (e : Event) (c : Context) (captures starts out : List ℕ) (r : Context) (captures' starts' out' : List ℕ) : Type 0 where
  pub among : is_enter e ≡ x → lo ≤ e.name → e.name ≤ hi → Dispatches View e c captures starts out r captures' starts' out'
