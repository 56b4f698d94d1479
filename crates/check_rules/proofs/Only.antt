-- The checker's answer is the only one that says what is so. Assumes nothing.
use Rattle.std.proofs.Common.{Option, Some, None, Ok, Err, if◌then◌else◌, ◌≡◌, refl, sym, ap, ◌∙◌, Bool, true, false, not, ◌↔◌, List, ℕ, ◌+◌}
use Rattle.lent.proofs.Computed.{is_true}
use Rattle.utf8.specs.Utf8.{is_utf8, Characters}
use Rattle.utf8.proofs.Characters.{characters}
use Rattle.event.specs.Event.{events_of}
use Rattle.check_nesting.specs.Tag.{tags_of}
use Rattle.check_nesting.specs.Nests.{Nests}
use Rattle.check_nesting.specs.Pass.{nest_of}
use Rattle.check_nesting.proofs.Grows.{exactly}
use Rattle.check_fields.specs.Fields.{fields_of}
use Rattle.check_slices.specs.Slices.{slices_of}
use Rattle.check_slices.specs.Counts.{counts_of}
use Rattle.check_labels.specs.Labels.{undefined_of}
use Rattle.check_list.specs.declared.Refusal.TheVariants.{WrongLength, NotUtf8, Field, Nested, Slice, Count, Label}
use Rattle.check_list.specs.Checked.{Checked, event, sizes_hold, check_of}
use Rattle.check_list.specs.Stairs.{stairs_of, from_fields, from_nesting, from_slices, from_counts, from_labels, after}
use Rattle.check_list.proofs.Numbers.{stairs}
use Rattle.check_rules.specs.Rules.{SizesMeet, SliceMeets, CountsMeet, FieldMeets, LabelAt, Each, Earliest, TooMany, Misplaced, Says, all-met, first, second, third, fourth, fifth, sixth, seventh}
use Rattle.check_rules.proofs.Counts.{counts-prefix, counts-meet, counts-break}
use Rattle.check_rules.proofs.Labels.{labels-meet, labels-break}
use Rattle.check_rules.proofs.Meets.{sizes-meet, sizes-hold, fields-break, fields-meet, misplaced, slices-break, slices-meet, says, yes-meets}
use Rattle.check_rules.proofs.Places.{one-earliest, one-too-many, one-misplaced}

module _ (text events : List ℕ) where
  -- ---- each rule that is met passes to the next, and the first place of one that is not is the answer

  module _ (next : Checked) where
    field_next : Each events (FieldMeets text events) → (a : Option ℕ) → fields_of text events ≡ a → next ≡ after a (λ i. Field i) next
    field_next f None p = refl
    field_next f (Some j) p = let e = fields-break text events j p in absurd (e.breaks (f j e.within))

    field-first : {i : ℕ} → Earliest events (FieldMeets text events) i → (a : Option ℕ) → fields_of text events ≡ a → Err (Field (event i)) ≡ after a (λ i. Field i) next
    field-first {i} e None p = absurd (e.breaks (fields-meet text events p i e.within))
    field-first e (Some j) p = ap (λ (k : ℕ). Err (Field (event k))) (one-earliest e (fields-break text events j p))

    nest-next : Nests (tags_of events) → (a : Option ℕ) → nest_of (tags_of events) ≡ a → next ≡ after a (λ i. Nested i) next
    nest-next n None p = refl
    nest-next n (Some j) p = absurd ((misplaced text events j p).breaks n)

    nest-first : {i : ℕ} → Misplaced (tags_of events) i → (a : Option ℕ) → nest_of (tags_of events) ≡ a → Err (Nested (event i)) ≡ after a (λ i. Nested i) next
    nest-first m None p = absurd (m.breaks ((exactly (tags_of events)).0 p))
    nest-first m (Some j) p = ap (λ (k : ℕ). Err (Nested (event k))) (one-misplaced m (misplaced text events j p))

    slice-next : Each events (SliceMeets events text) → (a : Option ℕ) → slices_of text events ≡ a → next ≡ after a (λ i. Slice i) next
    slice-next f None p = refl
    slice-next f (Some j) p = let e = slices-break text events j p in absurd (e.breaks (f j e.within))

    slice_first : {i : ℕ} → Earliest events (SliceMeets events text) i → (a : Option ℕ) → slices_of text events ≡ a → Err (Slice (event i)) ≡ after a (λ i. Slice i) next
    slice_first {i} e None p = absurd (e.breaks (slices-meet text events p i e.within))
    slice_first e (Some j) p = ap (λ (k : ℕ). Err (Slice (event k))) (one-earliest e (slices-break text events j p))

    count_next : CountsMeet (events_of events) → (a : Option ℕ) → counts_of events ≡ a → next ≡ after a (λ i. Count i) next
    count_next m None p = refl
    count_next m (Some j) p = absurd ((counts-break events j p).breaks (counts-prefix (j + 1) (events_of events) m))

    count-first : {i : ℕ} → TooMany (events_of events) i → (a : Option ℕ) → counts_of events ≡ a → Err (Count (event i)) ≡ after a (λ i. Count i) next
    count-first {i} m None p = absurd (m.breaks (counts-prefix (i + 1) (events_of events) ((counts-meet events).0 p)))
    count-first m (Some j) p = ap (λ (k : ℕ). Err (Count (event k))) (one-too-many m (counts-break events j p))

    label-first : {i : ℕ} → Nests (tags_of events) → Earliest events (LabelAt text events) i → (a : Option ℕ) → undefined_of text events ≡ a → Err (Label (event i)) ≡ after a (λ i. Label i) next
    label-first {i} n e None p = absurd (e.breaks (labels-meet text events p i e.within))
    label-first n e (Some j) p = ap (λ (k : ℕ). Err (Label (event k))) (one-earliest e (labels-break text events j n p))

  -- ---- in their order

  module _ (s : SizesMeet text events) where
    pass-sizes : (if not (is_utf8 text) then Err NotUtf8 else from_fields text events) ≡ check_of text events
    unfolding stairs_of
    pass-sizes = rw (sizes-hold text events s) at (stairs text events)

    module _ (c : Characters text) where
      pass-characters : from_fields text events ≡ check_of text events
      pass-characters = rw (is_true (is_utf8 text) ((characters text).1 c)) at pass-sizes

      module _ (f : Each events (FieldMeets text events)) where
        pass-fields : from_nesting text events ≡ check_of text events
        unfolding from_fields
        pass-fields = field_next (from_nesting text events) f (fields_of text events) refl ∙ pass-characters

        module _ (n : Nests (tags_of events)) where
          pass-nesting : from_slices text events ≡ check_of text events
          unfolding from_nesting
          pass-nesting = nest-next (from_slices text events) n (nest_of (tags_of events)) refl ∙ pass-fields

          module _ (l : Each events (SliceMeets events text)) where
            pass-slices : from_counts text events ≡ check_of text events
            unfolding from_slices
            pass-slices = slice-next (from_counts text events) l (slices_of text events) refl ∙ pass-nesting

            pass-counts : CountsMeet (events_of events) → from_labels text events ≡ check_of text events
            unfolding from_counts
            pass-counts m = count_next (from_labels text events) m (counts_of events) refl ∙ pass-slices

  too_long : (SizesMeet text events → ⊥) → Err WrongLength ≡ check_of text events
  unfolding stairs_of
  too_long x = go (sizes_hold text events) refl ∙ stairs text events
    where
      go : (a : Bool) → sizes_hold text events ≡ a → Err WrongLength ≡ (if not a then Err WrongLength else (if not (is_utf8 text) then Err NotUtf8 else from_fields text events))
      go false p = refl
      go true p = absurd (x (sizes-meet text events p))

  not_valid : (Characters text → ⊥) → Err NotUtf8 ≡ (if not (is_utf8 text) then Err NotUtf8 else from_fields text events)
  not_valid x = go (is_utf8 text) refl
    where
      go : (b : Bool) → is_utf8 text ≡ b → Err NotUtf8 ≡ (if not b then Err NotUtf8 else from_fields text events)
      go false p = refl
      go true p = absurd (x ((characters text).0 (rw p tt)))

  checked : {c : Checked} → Says text events c → c ≡ check_of text events
  unfolding from_fields from_nesting from_slices from_counts from_labels
  checked (all-met m) = sym ((yes-meets text events).1 m)
  checked (first x) = too_long x
  checked (second s x) = not_valid x ∙ pass-sizes s
  checked (third s c e) = field-first (from_nesting text events) e (fields_of text events) refl ∙ pass-characters s c
  checked (fourth s c f e) = nest-first (from_slices text events) e (nest_of (tags_of events)) refl ∙ pass-fields s c f
  checked (fifth s c f n e) = slice_first (from_counts text events) e (slices_of text events) refl ∙ pass-nesting s c f n
  checked (sixth s c f n l e) = count-first (from_labels text events) e (counts_of events) refl ∙ pass-slices s c f n l
  checked (seventh s c f n l m e) = label-first (Ok tt) n e (undefined_of text events) refl ∙ pass-counts s c f n l m

  -- what an answer says is so exactly where it is the checker's
  pub only : {c : Checked} → Says text events c ↔ (c ≡ check_of text events)
  only = (checked, λ e. rw e (says text events))
