-- What the dispatcher of exits does, but for the exits of what stands in a line. Assumes nothing.
use Rattle.std.specs.Prelude.{◌≡◌, Bool, false, ◌&&◌, ◌||◌, List, ℕ, ltb}
use Rattle.event.specs.declared.Event.{Event}
use Rattle.event.specs.Event.{is_enter, event_at}
use Rattle.machine.specs.declared.Options.{Options}
use Rattle.state_context.specs.declared.Context.{Context}
use Rattle.dispatch_turns.specs.Turns.{TurnAt, Dispatches}

-- the names of what stands in a line: another dispatcher has these
abbrev pub is_in_line : ℕ → Bool
is_in_line n = ltb n 12 || (ltb 32 n && ltb n 45)

-- the exit at an index, of any other name
pub record ExitsBlock (text events : List ℕ) (i : ℕ) (e : Event) (c : Context) (captures starts out : List ℕ) (r : Context) (captures' starts' out' : List ℕ) : Type 0 where
  pub exits : (o : Options) → event_at events i ≡ e → is_enter e ≡ false → is_in_line e.name ≡ false → Dispatches (TurnAt text events o i) e c captures starts out r captures' starts' out'
