-- What the dispatcher of enters does. Assumes nothing.
use Rattle.std.specs.Prelude.{◌≡◌, Bool, true, List, ℕ}
use Rattle.event.specs.declared.Event.{Event}
use Rattle.event.specs.Event.{is_enter, event_at}
use Rattle.machine.specs.declared.Options.{Options}
use Rattle.state_context.specs.declared.Context.{Context}
use Rattle.dispatch_turns.specs.Turns.{TurnAt, Dispatches}

-- an enter, where dangerous HTML is allowed or not: in any turn of its own
pub record Enters (e : Event) (allowed : Bool) (c : Context) (captures starts out : List ℕ) (r : Context) (captures' starts' out' : List ℕ) : Type 0 where
  pub enters : is_enter e ≡ true → (text events : List ℕ) (o : Options) (i : ℕ) → event_at events i ≡ e → o.allow_dangerous_html ≡ allowed → Dispatches (TurnAt text events o i) e c captures starts out r captures' starts' out'
