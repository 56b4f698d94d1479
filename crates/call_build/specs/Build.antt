-- The build: what each answer says of the note (RULES R7.2), and every lent byte afterwards (RULES R17). Assumes nothing.
use Rattle.std.specs.Prelude.{◌≡◌, List, ◌++◌, ℕ, ◌-◌, length, Ok, Err}
use Rattle.lent.specs.Fill.{zeros}
use Rattle.event.specs.Event.{events_of}
use Rattle.check_list.specs.Checked as C
use Rattle.machine.specs.declared.Options.{Options}
use Rattle.machine.specs.Outcome.{go}
use Rattle.machine.specs.Run.{page, refused, run_of, machine_of}
use Rattle.call_build_answer.specs.declared.Refusal.TheVariants.{Checked, WorkFull, PageFull}
use Rattle.call_build_answer.specs.Built.{Built, number_of, value_of, checked_of}

-- what an answer says of the note, of an output of room bytes, and of what stands in it afterwards
module _ (text events : List ℕ) (o : Options) (room work : ℕ) (out' : List ℕ) where
  -- the run is refused with the answer's number and place
  abbrev pub Limited : Built → Type 0
  Limited r = (checked_of text events work ≡ Ok tt) × (run_of text o room (events_of events) ≡ refused (number_of r) (value_of r)) × (out' ≡ zeros room)

  abbrev pub Ends : Built → Type 0
  Ends (Err (Checked c)) = (checked_of text events work ≡ Err c) × (number_of (Err (Checked c)) ≡ C.number_of (Err c)) × (value_of (Err (Checked c)) ≡ C.place_of (Err c)) × (out' ≡ zeros room)
  Ends (Ok n) =
      (checked_of text events work ≡ Ok tt)
      × (b : List ℕ)
      × (run_of text o room (events_of events) ≡ page b)
      × (machine_of text o (events_of events) ≡ go b)
      × (number_of (Ok n) ≡ 0)
      × (value_of (Ok n) ≡ length b)
      × (out' ≡ b ++ zeros (room - length b))
  Ends (Err (WorkFull i)) = Limited (Err (WorkFull i))
  Ends (Err (PageFull i)) = Limited (Err (PageFull i))

-- a call on these buffers answered r, and left out' and work'
pub record Builds (text events : List ℕ) (o : Options) (out work out' work' : List ℕ) (r : Built) : Type 0 where
  pub ended : Ends text events o (length out) (length work) out' r
  pub cleared : work' ≡ zeros (length work)
