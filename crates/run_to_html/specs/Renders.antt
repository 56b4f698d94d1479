-- What the whole comes to: the machine's answer under its limits. Assumes nothing.
use Rattle.std.specs.Prelude.{Result, Ok, Err, ◌≡◌, true, List, [], ℕ, ◌≤◌, length, take}
use Rattle.event.specs.Event.{events_of}
use Rattle.machine.specs.declared.Options.{Options}
use Rattle.machine.specs.declared.Ending.{Ending}
use Rattle.machine.specs.Outcome.{go}
use Rattle.machine.specs.State.{State, start}
use Rattle.machine.specs.Run.{Answer, page, refused, ending_of, fixed_of, are_begun, turns_of, run_of}
use Rattle.machine_bounded.specs.Within.{Goes}
use Rattle.machine_clean.specs.Clean.{Clean}
use Rattle.machine_clean.specs.Section.{Called}
use Rattle.run_answer.specs.declared.Full.{Full}
use Rattle.run_answer.specs.declared.Full.TheVariants as F

-- the machine goes through all turns within the code's tables, and each call has its footnote
pub record Runs (text events : List ℕ) (o : Options) : Type 0 where
  pub ending : Ending
  pub found : ending_of o.ending text (events_of events) ≡ go ending
  pub begun : are_begun (events_of events) ≡ true
  pub last : State
  pub goes : Goes (turns_of text o (events_of events)) (start (fixed_of o ending)) last
  pub closed : last.captures ≡ []
  pub clean : Clean last
  pub called : Called last

-- an answer of the code, with the output afterwards, is one of the machine
abbrev pub Answers : (out : List ℕ) → Result ℕ Full → Answer → Type 0
Answers out (Ok n) a = (a ≡ page (take n out)) × (n ≤ length out)
Answers out (Err (F.Work i)) a = a ≡ refused 8 i.0
Answers out (Err (F.Page i)) a = a ≡ refused 9 i.0

pub record Renders (text events : List ℕ) (o : Options) (out out' : List ℕ) (r : Result ℕ Full) : Type 0 where
  pub renders : Runs text events o → Answers out' r (run_of text o (length out) (events_of events))
