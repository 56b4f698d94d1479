-- What becomes of an event. Assumes nothing.
use Rattle.std.specs.Prelude.{◌≡◌, false, List, ℕ}
use Rattle.event.specs.declared.Event.{Event}
use Rattle.event.specs.Event.{event_at}
use Rattle.machine.specs.declared.Options.{Options}
use Rattle.state_context.specs.declared.Context.{Context}
use Rattle.state_whole.specs.declared.Whole.{Whole}
use Rattle.state_whole.specs.Quiet.{is_quiet}
use Rattle.state_whole.specs.Whole.{World, Handles}
use Rattle.dispatch_turns.specs.Turns.{TurnAt, Dispatches, command_for}
use Rattle.dispatch_turns.specs.Loud.{Spare, Shows}

-- the event at an index, where its command is quiet
pub record Quietly (text events : List ℕ) (o : Options) (i : ℕ) (e : Event) (c : Context) (captures starts out : List ℕ) (r : Context) (captures' starts' out' : List ℕ) : Type 0 where
  pub quietly : event_at events i ≡ e → Dispatches (TurnAt text events o i) e c captures starts out r captures' starts' out'

-- an event whose command is not
pub record Wholly (text : List ℕ) (o : Options) (e : Event) (b : Whole) (w : World) (r : Whole) (w' : World) : Type 0 where
  pub wholly : is_quiet (command_for e) ≡ false → Handles text Spare (Shows text o e) (command_for e) b w r w'
