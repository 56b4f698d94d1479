-- What the dispatcher of exits of what stands in a line does. Assumes nothing.
use Rattle.std.specs.Prelude.{◌≡◌, Bool, true, false, ◌&&◌, ◌||◌, List, ℕ, ltb}
use Rattle.event.specs.declared.Event.{Event}
use Rattle.event.specs.Event.{is_enter, event_at}
use Rattle.machine.specs.declared.Options.{Options}
use Rattle.state_context.specs.declared.Context.{Context}
use Rattle.dispatch_turns.specs.Turns.{TurnAt, Dispatches}

-- its names: another dispatcher has the rest
abbrev pub is_text : ℕ → Bool
is_text n = ltb n 12 || (ltb 32 n && ltb n 45)

-- the exit at an index, of one of them
pub record ExitsInline (text events : List ℕ) (o : Options) (i : ℕ) (e : Event) (c : Context) (captures starts out : List ℕ) (r : Context) (captures' starts' out' : List ℕ) : Type 0 where
  pub exits : event_at events i ≡ e → is_enter e ≡ false → is_text e.name ≡ true → Dispatches (TurnAt text events o i) e c captures starts out r captures' starts' out'
