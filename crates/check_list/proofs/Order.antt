-- The order of the passes, as the code goes through it. Assumes nothing.
use Rattle.std.proofs.Common.{Option, Some, None, Ok, Err, ◌≡◌, ◌∙◌, Bool, true, false, not, List, ℕ}
use borrow.Author.Tests.{not-true, not-false}
use Rattle.utf8.specs.Utf8.{is_utf8}
use Rattle.check_slices.specs.Slices.{slices_of}
use Rattle.check_slices.specs.Counts.{counts_of}
use Rattle.check_labels.specs.Labels.{undefined_of}
use Rattle.check_events.specs.declared.Passed.{Passed}
use Rattle.check_events.specs.Looked.{Passes, Looks}
use Rattle.check_events.specs.declared.Fault.{Fault}
use Rattle.check_events.specs.declared.Fault.TheVariants as F
use Rattle.check_list.specs.declared.Refusal.TheVariants.{WrongLength, NotUtf8, Slice, Count, Label}
use Rattle.check_list.specs.Checked.{Checked, refusal_of, event, sizes_hold, Checks}
use Rattle.check_list.specs.Stairs.{stairs_of, from_fields, from_nesting, from_slices, from_counts, from_labels}
use Rattle.check_list.proofs.Numbers.{checks, stairs}

module _ (text events : List ℕ) where
  module _ (x : Bool) (p : x ≡ sizes_hold text events) where
    pub wrong-length : not x ≡ true → Checks text events (Err WrongLength)
    unfolding stairs_of
    wrong-length h = let e : Err WrongLength ≡ stairs_of text events = rw (← p, not-true x h) in checks text events (e ∙ stairs text events)

    module _ (y : Bool) (q : y ≡ is_utf8 text) (h : not x ≡ false) where
      pub not-utf8 : not y ≡ true → Checks text events (Err NotUtf8)
      unfolding stairs_of
      not-utf8 k = let e : Err NotUtf8 ≡ stairs_of text events = rw (← p, not-false x h, ← q, not-true y k) in checks text events (e ∙ stairs text events)

      pub from-here : {r : Checked} → not y ≡ false → r ≡ from_fields text events → Checks text events r
      unfolding stairs_of
      from-here k e = let d : from_fields text events ≡ stairs_of text events = rw (← p, not-false x h, ← q, not-false y k) in checks text events (e ∙ d ∙ stairs text events)

  pub looked-fault : (f : Fault) → Looks text events (Err f) → Err (refusal_of f) ≡ from_fields text events
  unfolding from_fields from_nesting
  looked-fault (F.Field i) p = rw (← p)
  looked-fault (F.Nested i) p = rw (← p.0, ← p.1)

  module _ {v : Passed} (p : Looks text events (Ok v)) where
    pub looked-through : {r : Checked} → r ≡ from_slices text events → r ≡ from_fields text events
    unfolding from_fields from_nesting
    looked-through e = e ∙ rw (← p.0, ← p.1)

  module _ (x : Option ℕ) (p : x ≡ slices_of text events) where
    pub slices-pass : {r : Checked} → x ≡ None → r ≡ from_counts text events → r ≡ from_slices text events
    unfolding from_slices
    slices-pass q e = e ∙ rw (← p, q)

    pub slices-fail : (i : ℕ) → x ≡ Some i → Err (Slice (event i)) ≡ from_slices text events
    unfolding from_slices
    slices-fail i q = rw (← p, q)

  module _ (x : Option ℕ) (p : x ≡ counts_of events) where
    pub counts-pass : {r : Checked} → x ≡ None → r ≡ from_labels text events → r ≡ from_counts text events
    unfolding from_counts
    counts-pass q e = e ∙ rw (← p, q)

    pub counts-fail : (i : ℕ) → x ≡ Some i → Err (Count (event i)) ≡ from_counts text events
    unfolding from_counts
    counts-fail i q = rw (← p, q)

  module _ (x : Option ℕ) (p : x ≡ undefined_of text events) where
    pub labels-pass : x ≡ None → Ok tt ≡ from_labels text events
    unfolding from_labels
    labels-pass q = rw (← p, q)

    pub labels-fail : (i : ℕ) → x ≡ Some i → Err (Label (event i)) ≡ from_labels text events
    unfolding from_labels
    labels-fail i q = rw (← p, q)
