-- What a dispatcher of the whole does: the events whose command is not quiet; and a whole turn. Assumes nothing.
use Rattle.std.specs.Prelude.{◌≡◌, Bool, false, List, ℕ, ◌≤◌}
use Rattle.regions.specs.Sizes.{region_size}
use Rattle.event.specs.declared.Event.{Event}
use Rattle.event.specs.Event.{is_enter, event_at}
use Rattle.machine.specs.declared.Options.{Options}
use Rattle.machine.specs.Turn.{Turn}
use Rattle.state_kept.specs.Kept.{Tables}
use Rattle.state_whole.specs.declared.Whole.{Whole}
use Rattle.state_whole.specs.Quiet.{is_quiet}
use Rattle.state_whole.specs.Whole.{World, Roomy, Handles}
use Rattle.dispatch_turns.specs.Turns.{TurnAt, command_for}

-- all that is lent
abbrev pub world : (work out starts : List ℕ) → Tables → World
world work out starts tables = record { work = work; out = out; starts = starts; tables = tables }

-- there is room everywhere
pub record Spare (b : Whole) : Type 0 where
  pub roomy : Roomy b
  pub kept : b.kept.end ≤ region_size

-- a turn of this event of this text, under these options
pub record Shows (text : List ℕ) (o : Options) (e : Event) (t : Turn) : Type 0 where
  pub text-is : t.text ≡ text
  pub options-are : t.options ≡ o
  pub event-is : t.event ≡ e

-- an enter (x true) or exit whose name is one of these, and whose command is not quiet
pub record Acts (x : Bool) (lo hi : ℕ) (text : List ℕ) (View : Turn → Type 0) (e : Event) (b : Whole) (w : World) (r : Whole) (w' : World) : Type 0 where
  pub acts : is_enter e ≡ x → lo ≤ e.name → e.name ≤ hi → is_quiet (command_for e) ≡ false → Handles text Spare View (command_for e) b w r w'

-- one turn
pub record Turned (text events : List ℕ) (o : Options) (i : ℕ) (b : Whole) (w : World) (r : Whole) (w' : World) : Type 0 where
  pub turned : Handles text Spare (TurnAt text events o i) (command_for (event_at events i)) b w r w'
