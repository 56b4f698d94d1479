-- The checker's answer from a number on, as the code goes through it: no part of a promise. Assumes nothing.
use Rattle.std.specs.Prelude.{not, List, ℕ, if◌then◌else◌, Option, Some, None, Ok, Err}
use Rattle.utf8.specs.Utf8.{is_utf8}
use Rattle.event.specs.declared.EventIndex.{EventIndex}
use Rattle.check_nesting.specs.Tag.{tags_of}
use Rattle.check_nesting.specs.Pass.{nest_of}
use Rattle.check_fields.specs.Fields.{fields_of}
use Rattle.check_slices.specs.Slices.{slices_of}
use Rattle.check_slices.specs.Counts.{counts_of}
use Rattle.check_labels.specs.Labels.{undefined_of}
use Rattle.check_list.specs.declared.Refusal.{Refusal}
use Rattle.check_list.specs.declared.Refusal.TheVariants.{WrongLength, NotUtf8, Field, Nested, Slice, Count, Label}
use Rattle.check_list.specs.Checked.{Checked, event, sizes_hold}

-- a pass's first event at fault is the answer, else what comes next
abbrev pub after : Option ℕ → (EventIndex → Refusal) → Checked → Checked
after None refusal next = next
after (Some i) refusal next = Err (refusal (event i))

unfoldable pub from_labels : (text events : List ℕ) → Checked
from_labels text events = after (undefined_of text events) (λ i. Label i) (Ok tt)

unfoldable pub from_counts : (text events : List ℕ) → Checked
from_counts text events = after (counts_of events) (λ i. Count i) (from_labels text events)

unfoldable pub from_slices : (text events : List ℕ) → Checked
from_slices text events = after (slices_of text events) (λ i. Slice i) (from_counts text events)

unfoldable pub from_nesting : (text events : List ℕ) → Checked
from_nesting text events = after (nest_of (tags_of events)) (λ i. Nested i) (from_slices text events)

unfoldable pub from_fields : (text events : List ℕ) → Checked
from_fields text events = after (fields_of text events) (λ i. Field i) (from_nesting text events)

unfoldable pub stairs_of : (text events : List ℕ) → Checked
stairs_of text events =
    if not (sizes_hold text events) then Err WrongLength
    else (if not (is_utf8 text) then Err NotUtf8
    else from_fields text events)
