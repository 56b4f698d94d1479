-- What a pass does: it follows the machine's run over its turns, up to the first after which something lacks room. Assumes nothing.
use Rattle.std.specs.Prelude.{Result, Ok, Err, ◌≡◌, Bool, false, List, [], ◌++◌, ℕ, length}
use Rattle.machine.specs.declared.Options.{Options}
use Rattle.machine.specs.State.{State}
use Rattle.machine.specs.Turn.{Turn}
use Rattle.machine.specs.Run.{refused}
use Rattle.machine_bounded.specs.Within.{Goes}
use Rattle.state_whole.specs.declared.Whole.{Whole}
use Rattle.state_whole.specs.Whole.{World}
use Rattle.dispatch_turns.specs.Passing.{turns_left}
use Rattle.run_next.specs.Reach.{run, Stands, Reaches}
use Rattle.run_answer.specs.declared.Full.{Full}
use Rattle.run_answer.specs.declared.Full.TheVariants as F

-- the run is refused
pub record Refuses (text events : List ℕ) (room : ℕ) (before : List Turn) (b : Whole) (w : World) (number place : ℕ) : Type 0 where
  pub refuses : (rest : List Turn) (s v : State) → Stands text room b w s → Goes (before ++ rest) s v → run events room (before ++ rest) s ≡ refused number place

abbrev pub Ends : (text events : List ℕ) → (room : ℕ) → (before : List Turn) → Whole → World → Result Whole Full → World → Type 0
Ends text events room before b w (Ok r) w' = Reaches text events room before [] b w r w'
Ends text events room before b w (Err (F.Work place)) w' = Refuses text events room before b w 8 place.0
Ends text events room before b w (Err (F.Page place)) w' = Refuses text events room before b w 9 place.0

pub record Passes (definitions : Bool) (text events : List ℕ) (o : Options) (b : Whole) (w : World) (r : Result Whole Full) (w' : World) : Type 0 where
  pub passes : Ends text events (length w.out) (turns_left definitions text events o false 0) b w r w'
