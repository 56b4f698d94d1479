-- What the functions answer. Assumes nothing.
use Rattle.std.specs.Prelude.{◌≡◌, Bool, ◌&&◌, List, [], ◌∷◌, ℕ}
use Rattle.event.specs.declared.Event.{Event}
use Rattle.event.specs.Event.{named, events_of}
use Rattle.machine.specs.declared.Ending.{Ending}
use Rattle.machine.specs.Outcome.{go, ◌>>=◌}
use Rattle.machine.specs.Turn.{is_exit, span_of, str_of}
use Rattle.machine.specs.Run.{parse_ending, ending_of}

pub record EndsLine (e : Event) (r : Bool) : Type 0 where
  pub is : r ≡ (is_exit e && named (3 ∷ 4 ∷ []) e)

-- where the slice is one
pub record Parses (text : List ℕ) (e : Event) (r : Ending) : Type 0 where
  pub parses : (x : Ending) → (str_of text (span_of e) >>= parse_ending) ≡ go x → r ≡ x

-- where the machine finds one
pub record Finds (default : Ending) (text events : List ℕ) (r : Ending) : Type 0 where
  pub finds : (x : Ending) → ending_of default text (events_of events) ≡ go x → r ≡ x
