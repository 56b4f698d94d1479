-- What the inner functions do: no part of a promise. Assumes nothing.
use Rattle.std.specs.Prelude.{Result, ◌≡◌, Bool, true, false, List, [], ◌++◌, ℕ, length}
use Rattle.regions.specs.Sizes.{work_size}
use Rattle.machine.specs.declared.Options.{Options}
use Rattle.machine.specs.declared.Fixed.{Fixed}
use Rattle.machine.specs.State.{State, start}
use Rattle.machine.specs.Turn.{Turn}
use Rattle.machine_bounded.specs.Within.{Goes}
use Rattle.machine_clean.specs.Clean.{Clean}
use Rattle.machine_clean.specs.Section.{Called}
use Rattle.state_kept.specs.Kept.{Long}
use Rattle.state_whole.specs.declared.Whole.{Whole}
use Rattle.state_whole.specs.Whole.{World, Mirrors}
use Rattle.dispatch_turns.specs.Passing.{turns_left}
use Rattle.run_next.specs.Reach.{run, Stands}
use Rattle.run_answer.specs.declared.Full.{Full}
use Rattle.run_to_html.specs.Renders.{Answers}

-- before the first event, whatever is lent
pub record Begun (fixed : Fixed) (b : Whole) : Type 0 where
  pub begun : (text : List ℕ) (w : World) → length w.work ≡ work_size → length w.starts ≡ 64 → Long w.tables → Mirrors text b w (start fixed)

-- the last state of a run
pub record Last (v : State) : Type 0 where
  pub closed : v.captures ≡ []
  pub clean : Clean v
  pub called : Called v

-- behind the last event
pub record Finishes (b : Whole) (text events work footnotes calls out out' : List ℕ) (r : Result ℕ Full) : Type 0 where
  pub finishes : (w : World) (s : State) → w.work ≡ work → w.out ≡ out → w.tables.footnotes ≡ footnotes → w.tables.calls ≡ calls → Stands text (length out) b w s → Last s → Answers out' r (run events (length out) [] s)

-- the turns of both passes, or of the second
abbrev pub turns_from : (definitions : Bool) → (text events : List ℕ) → Options → List Turn
turns_from true text events o = turns_left true text events o false 0 ++ turns_left false text events o false 0
turns_from false text events o = turns_left false text events o false 0

-- over them, to the end
pub record FinishesAll (definitions : Bool) (text events : List ℕ) (o : Options) (b : Whole) (w : World) (out' : List ℕ) (r : Result ℕ Full) : Type 0 where
  pub finishes : (s v : State) → Stands text (length w.out) b w s → Goes (turns_from definitions text events o) s v → Last v → Answers out' r (run events (length w.out) (turns_from definitions text events o) s)
