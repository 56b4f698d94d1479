-- The checker's answer: the lowest number whose rule is broken, at its earliest event (RULES R7.3); number and place for each. Assumes nothing.
use Rattle.std.specs.Prelude.{◌≡◌, Bool, not, ◌&&◌, List, ℕ, ◌*◌, ◌%◌, eqb, leb, length, if◌then◌else◌, Some, None, Result, Ok, Err}
use Rattle.utf8.specs.Utf8.{is_utf8}
use Rattle.event.specs.declared.EventIndex.{EventIndex}
use Rattle.event.specs.Event.{record_size}
use Rattle.check_nesting.specs.Tag.{tags_of}
use Rattle.check_nesting.specs.Pass.{nest_of}
use Rattle.check_fields.specs.Fields.{fields_of}
use Rattle.check_slices.specs.Slices.{slices_of}
use Rattle.check_slices.specs.Counts.{counts_of}
use Rattle.check_labels.specs.Labels.{undefined_of}
use Rattle.check_events.specs.declared.Fault.{Fault}
use Rattle.check_events.specs.declared.Fault.TheVariants as F
use Rattle.check_list.specs.declared.Refusal.{Refusal}
use Rattle.check_list.specs.declared.Refusal.TheVariants.{WrongLength, NotUtf8, Field, Nested, Slice, Count, Label}

-- yes, or why not
abbrev pub Checked : Type 0
Checked = Result (Unit {0}) Refusal

-- ---- RULES R7.1: number and place for each answer

abbrev pub number_of : Checked → ℕ
number_of (Ok u) = 0
number_of (Err WrongLength) = 1
number_of (Err NotUtf8) = 2
number_of (Err (Field i)) = 3
number_of (Err (Nested i)) = 4
number_of (Err (Slice i)) = 5
number_of (Err (Count i)) = 6
number_of (Err (Label i)) = 7

abbrev pub place_of : Checked → ℕ
place_of (Ok u) = 0
place_of (Err WrongLength) = 0
place_of (Err NotUtf8) = 0
place_of (Err (Field i)) = i.0
place_of (Err (Nested i)) = i.0
place_of (Err (Slice i)) = i.0
place_of (Err (Count i)) = i.0
place_of (Err (Label i)) = i.0

-- ---- the answer

abbrev pub event : ℕ → EventIndex
event i = record { 0 = i }

-- what the walk for 3 and 4 found
abbrev pub refusal_of : Fault → Refusal
refusal_of (F.Field i) = Field (event i)
refusal_of (F.Nested i) = Nested (event i)

-- RULES R8.1: a text of up to 64,000 bytes, and up to 3,200 events, in whole records
abbrev pub sizes_hold : (text events : List ℕ) → Bool
sizes_hold text events = leb (length text) 64000 && leb (length events) (record_size * 3200) && eqb (length events % record_size) 0

-- one of eight, by the first of the rules that is broken, in the order of their numbers; from 3 on with its event
unfoldable pub choose : {A : Type 0} → (text events : List ℕ) → (sizes utf8 : A) → (field nested slice count label : ℕ → A) → (passed : A) → A
choose text events sizes utf8 field nested slice count label passed =
    if not (sizes_hold text events) then sizes
    else (if not (is_utf8 text) then utf8
    else
    elim (fields_of text events) [
      | Some i ↦ field i
      | None ↦ elim (nest_of (tags_of events)) [
        | Some i ↦ nested i
        | None ↦ elim (slices_of text events) [
          | Some i ↦ slice i
          | None ↦ elim (counts_of events) [
            | Some i ↦ count i
            | None ↦ elim (undefined_of text events) [ Some i ↦ label i | None ↦ passed ]
          ]
        ]
      ]
    ])

unfoldable pub check_of : (text events : List ℕ) → Checked
check_of text events =
    choose text events (Err WrongLength) (Err NotUtf8) (λ i. Err (Field (event i))) (λ i. Err (Nested (event i))) (λ i. Err (Slice (event i))) (λ i. Err (Count (event i))) (λ i. Err (Label (event i))) (Ok tt)

-- ---- the promise

-- a call on this text and these events answered r
pub record Checks (text events : List ℕ) (r : Checked) : Type 0 where
  pub answer : r ≡ check_of text events
  pub number : number_of r ≡ choose text events 1 2 (λ i. 3) (λ i. 4) (λ i. 5) (λ i. 6) (λ i. 7) 0
  pub place : place_of r ≡ choose text events 0 0 (λ i. i) (λ i. i) (λ i. i) (λ i. i) (λ i. i) 0
