-- The steps of the walk: no part of a promise. Assumes nothing.
use Rattle.std.specs.Prelude.{◌≡◌, Bool, true, false, List, ℕ, drop, Option, Some, None}
use Rattle.event.specs.declared.Event.{Event}
use Rattle.event.specs.Event.{is_enter, events_of}
use Rattle.check_fields.specs.First.{first_break}
use Rattle.check_fields.specs.Fields.{fields_hold}
use Rattle.check_slices.specs.declared.Seen.{Seen}
use Rattle.check_slices.specs.declared.Counts.{Counts}
use Rattle.check_slices.specs.Slices.{seen_behind, event_holds}
use Rattle.check_slices.specs.Counts.{counted_behind, count_holds}
use Rattle.check_events.specs.Looked.{is_use}

-- the event i of a pass: what is wrong first, and the state, before it and behind it
module _ {S : Type 0} (holds : S → Event → Bool) (behind : S → Event → S) where
  pub record Step (i : ℕ) (e : Event) (wrong : Option ℕ) (s : S) (next : Option ℕ) (t : S) : Type 0 where
    pub over : (j : ℕ) → wrong ≡ Some j → next ≡ Some j
    pub on : wrong ≡ None → holds s e ≡ true → next ≡ None
    pub state : wrong ≡ None → holds s e ≡ true → t ≡ behind s e
    pub breaks : wrong ≡ None → holds s e ≡ false → next ≡ Some i

-- an event that keeps the rule for slices in any text and state, which it leaves as it is
pub record Unsliced (e : Event) : Type 0 where
  pub holds : (text : List ℕ) (seen : Seen) → event_holds text seen e ≡ true
  pub stays : (seen : Seen) → seen ≡ seen_behind seen e

-- the same for the counts; and 7 does not look at it
pub record Uncounted (e : Event) : Type 0 where
  pub holds : (n : Counts) → count_holds n e ≡ true
  pub stays : (n : Counts) → n ≡ counted_behind n e
  pub unused : is_use e ≡ false

-- where the answer is yes, an enter of this name is both
pub record IdleEnter (name : ℕ) (r : Bool) : Type 0 where
  pub unsliced : r ≡ true → (e : Event) → is_enter e ≡ true → e.name ≡ name → Unsliced e
  pub uncounted : r ≡ true → (e : Event) → is_enter e ≡ true → e.name ≡ name → Uncounted e

-- an exit is no definition: where the answer is yes, one of this name has no slice either
pub record IdleExit (name : ℕ) (r : Bool) : Type 0 where
  pub unsliced : r ≡ true → (e : Event) → is_enter e ≡ false → e.name ≡ name → Unsliced e

-- what is found from the event i on is what is found at all
abbrev pub FieldsTo : (text events : List ℕ) → ℕ → Type 0
FieldsTo text events i = first_break (fields_hold text) i (drop i (events_of events)) ≡ first_break (fields_hold text) 0 (events_of events)
