-- How far the machine's run over a pass's turns has come. Assumes nothing.
use Rattle.std.specs.Prelude.{◌≡◌, Bool, not, List, ◌++◌, ℕ, length, if◌then◌else◌}
use Rattle.std.proofs.Math.Option.{none}
use Rattle.event.specs.Event.{count_of}
use Rattle.machine.specs.State.{State}
use Rattle.machine.specs.Turn.{Turn}
use Rattle.machine.specs.Totals.{over}
use Rattle.machine.specs.Run.{Answer, run_from}
use Rattle.machine_bounded.specs.Within.{Goes}
use Rattle.state_whole.specs.declared.Whole.{Whole}
use Rattle.state_whole.specs.Whole.{World, Mirrors}
use Rattle.dispatch_turns.specs.Passing.{is_here}
use Rattle.event.specs.declared.Event.{Event}

-- the run over turns, from a state
abbrev pub run : (events : List ℕ) → (room : ℕ) → List Turn → State → Answer
run events room ts s = run_from (count_of events) (over room) ts s

-- the code's state stands for the machine's, and there is room
pub record Stands (text : List ℕ) (room : ℕ) (b : Whole) (w : World) (s : State) : Type 0 where
  pub built : Mirrors text b w s
  pub long : length w.out ≡ room
  pub roomy : over room s ≡ none

-- from b on, over some turns and then others, the machine goes to where r stands, and the others are left
pub record Reaches (text events : List ℕ) (room : ℕ) (before after : List Turn) (b : Whole) (w : World) (r : Whole) (w' : World) : Type 0 where
  pub reaches : (rest : List Turn) (s v : State) → Stands text room b w s → Goes (before ++ rest) s v
      → (u : State) × Stands text room r w' u × Goes (after ++ rest) u v × (run events room (before ++ rest) s ≡ run events room (after ++ rest) u)

-- whether an event is the pass's
abbrev pub wanted : (definitions inside : Bool) → Event → Bool
wanted definitions inside e = if definitions then is_here inside e else not (is_here inside e)
