-- Refusal 6 (RULES R7.4): at most 128 definitions and 64 footnote definitions. Assumes nothing.
use Rattle.std.specs.Prelude.{Bool, true, List, ℕ, ◌+◌, ◌≤◌, eqb, ltb, if◌then◌else◌, Option}
use Rattle.event.specs.declared.Event.{Event}
use Rattle.event.specs.Event.{is_enter, events_of}
use Rattle.check_slices.specs.declared.Counts.{Counts}
use Rattle.check_slices.specs.First.{first_from}

abbrev pub none_counted : Counts
none_counted = record { definitions = 0; footnotes = 0 }

-- no more than there may be
pub record Few (n : Counts) : Type 0 where
  pub definitions : n.definitions ≤ 128
  pub footnotes : n.footnotes ≤ 64

-- the enters of 53 and of 63 so far
unfoldable pub counted_behind : Counts → Event → Counts
counted_behind n e =
    if is_enter e then
    (if eqb e.name 53 then record { definitions = n.definitions + 1; footnotes = n.footnotes }
    else (if eqb e.name 63 then record { definitions = n.definitions; footnotes = n.footnotes + 1 }
    else n))
    else n

-- no 129th definition, and no 65th footnote definition
unfoldable pub count_holds : Counts → Event → Bool
count_holds n e =
    if is_enter e then
    (if eqb e.name 53 then ltb n.definitions 128
    else (if eqb e.name 63 then ltb n.footnotes 64
    else true))
    else true

-- the first enter that is one too many
unfoldable pub counts_of : (events : List ℕ) → Option ℕ
counts_of events = first_from count_holds counted_behind 0 none_counted (events_of events)
