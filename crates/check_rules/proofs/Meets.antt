-- The checker says yes exactly when the rules are met; else the lowest number, and its first event. Assumes nothing.
use Rattle.std.proofs.Common.{Option, Some, None, Ok, Err, if◌then◌else◌, ◌≡◌, refl, sym, ◌∙◌, Bool, true, false, not, ◌&&◌, ◌↔◌, List, ℕ, ◌+◌, ◌/◌, ◌%◌, ◌<◌, arith, leb-true, le-leb, eqb-true, eqb, leb, length}
use native.Mathlib.Decide.{dec_lt}
use Rattle.lent.proofs.Laws.{and_left, and_right}
use Rattle.lent.proofs.Computed.{is_true}
use Rattle.utf8.specs.Utf8.{is_utf8, Characters}
use Rattle.utf8.proofs.Characters.{characters}
use Rattle.event.specs.Event.{event_at, events_of}
use Rattle.event.proofs.Laws.{events-next, events-end}
use Rattle.check_nesting.specs.Tag.{tags_of}
use Rattle.check_nesting.specs.Nests.{Nests}
use Rattle.check_nesting.specs.Pass.{nest_of}
use Rattle.check_nesting.proofs.Passes.{nests-yes}
use Rattle.check_nesting.proofs.Grows.{exactly}
use Rattle.check_nesting.proofs.Fault.{within, at-fault}
use Rattle.check_nesting.proofs.Ahead.{before-fault, open-before}
use Rattle.check_fields.specs.Fields.{fields_of}
use Rattle.check_fields.proofs.Laws.{fields-yes, fields_at}
use Rattle.check_fields.proofs.Meet.{meets}
use Rattle.check_slices.specs.Slices.{nothing_seen, seen_behind, event_holds, slices_of}
use Rattle.check_slices.specs.Counts.{counts_of}
use Rattle.check_slices.proofs.First.{holds_at}
use Rattle.check_slices.proofs.Laws.{slices-yes, slices-at}
use Rattle.check_labels.specs.Labels.{undefined_of}
use Rattle.check_list.specs.declared.Refusal.TheVariants.{WrongLength, NotUtf8, Field, Nested, Slice, Count, Label}
use Rattle.check_list.specs.Checked.{Checked, sizes_hold, check_of}
use Rattle.check_list.specs.Stairs.{stairs_of, from_fields, from_nesting, from_slices, from_counts, from_labels, after}
use Rattle.check_list.proofs.Numbers.{stairs}
use Rattle.check_rules.specs.Rules.{SizesMeet, SliceMeets, CountsMeet, FieldMeets, Each, Meets, Earliest, Misplaced, Says, all-met, first, second, third, fourth, fifth, sixth, seventh}
use Rattle.check_rules.proofs.Before.{clash}
use Rattle.check_rules.proofs.States.{holds-there, holds-past}
use Rattle.check_rules.proofs.Slices.{seen_at, tells, slice-meets, slice-holds}
use Rattle.check_rules.proofs.Counts.{counts-prefix, counts-meet, counts-break}
use Rattle.check_rules.proofs.Labels.{labels-meet, labels-break}

module _ (text events : List ℕ) where
  abbrev count : ℕ
  count = length events / 20

  -- ---- 1 and 2

  pub sizes-meet : sizes_hold text events ≡ true → SizesMeet text events
  sizes-meet p =
      let a = leb (length text) 64000 in
      let b = leb (length events) 64000 in
      let q = and_left (a && b) (eqb (length events % 20) 0) p in
      let l = leb-true (length events) 64000 (and_right a b q) in
      record { short = leb-true (length text) 64000 (and_left a b q); whole = eqb-true (length events % 20) 0 (and_right (a && b) (eqb (length events % 20) 0) p); most = omega arith }

  pub sizes-hold : SizesMeet text events → sizes_hold text events ≡ true
  sizes-hold m =
      let w = m.whole in
      let n = m.most in
      rw (le-leb (length text) 64000 m.short, le-leb (length events) 64000 (omega arith), w)

  -- ---- 3

  pub fields-break : (i : ℕ) → fields_of text events ≡ Some i → Earliest events (FieldMeets text events) i
  fields-break i p =
      let f = (fields_at text events i).0 p in
      record { within = f.within; breaks = λ m. clash ((meets (event_at events i) text).1 m) f.fails; before = λ k h. (meets (event_at events k) text).0 (f.before k h) }

  pub fields-meet : fields_of text events ≡ None → Each events (FieldMeets text events)
  fields-meet p k h = (meets (event_at events k) text).0 ((fields-yes text events).0 p k h)

  -- ---- 4

  pub misplaced : (i : ℕ) → nest_of (tags_of events) ≡ Some i → Misplaced (tags_of events) i
  misplaced i p =
      record {
        within = within (tags_of events) i p;
        before = (let w = before-fault (tags_of events) i p in record { more = w.0; most = 67; nests = w.1; few = λ k. omega (arith, open-before (tags_of events) i p k) });
        fault = λ h w. at-fault (tags_of events) i p h w.few w.most w.more w.nests;
        breaks = λ n. (let q = nests-yes (tags_of events) n in let z : ◌≡◌ {A = ℕ} 0 1 = cc in absurd (omega arith));
      }

  -- ---- 5

  holds_at_lem : (k : ℕ) → k < count → holds_at (event_holds text) seen_behind nothing_seen (events_of events) k ≡ event_holds text (seen_at events k) (event_at events k)
  holds_at_lem k h = holds-there seen_behind (event_holds text) nothing_seen (events_of events) k (events-next events k h)

  slice_at : (k : ℕ) → k < count → holds_at (event_holds text) seen_behind nothing_seen (events_of events) k ≡ true → SliceMeets events text k
  slice_at k h p = slice-meets text events k (seen_at events k) (tells events k (omega arith)) (sym (holds_at_lem k h) ∙ p)

  pub slices-break : (i : ℕ) → slices_of text events ≡ Some i → Earliest events (SliceMeets events text) i
  slices-break i p =
      let f = slices-at text events i p in
      let e : f.index ≡ i = omega (arith, f.place) in
      let b : holds_at (event_holds text) seen_behind nothing_seen (events_of events) i ≡ false = rw e at f.breaks in
      elim (dec_lt i count) [
        | no h ↦ clash (holds-past seen_behind (event_holds text) nothing_seen (events_of events) i (events-end events i (omega arith))) b
        | yes h ↦ record {
          within = h;
          breaks = λ m. clash (holds_at_lem i h ∙ slice-holds text events i (seen_at events i) (tells events i (omega arith)) m) b;
          before = λ k l. slice_at k (omega arith) (f.before k (omega arith));
        }
      ]

  pub slices-meet : slices_of text events ≡ None → Each events (SliceMeets events text)
  slices-meet p k h = slice_at k h (slices-yes text events p k)

  -- ---- the order

  module _ (s : SizesMeet text events) (c : Characters text) where
    module _ (f : Each events (FieldMeets text events)) where
      module _ (n : Nests (tags_of events)) where
        module _ (l : Each events (SliceMeets events text)) where
          say-labels : CountsMeet (events_of events) → (a : Option ℕ) → undefined_of text events ≡ a → Says text events (after a (λ i. Label i) (Ok tt))
          say-labels m None p = all-met (record { sizes = s; characters = c; fields = f; nests = n; slices = l; counts = m; labels = labels-meet text events p })
          say-labels m (Some i) p = seventh s c f n l m (labels-break text events i n p)

          say-counts : (a : Option ℕ) → counts_of events ≡ a → Says text events (after a (λ i. Count i) (from_labels text events))
          unfolding from_labels
          say-counts None p = say-labels ((counts-meet events).0 p) (undefined_of text events) refl
          say-counts (Some i) p = sixth s c f n l (counts-break events i p)

        say-slices : (a : Option ℕ) → slices_of text events ≡ a → Says text events (after a (λ i. Slice i) (from_counts text events))
        unfolding from_counts
        say-slices None p = say-counts (slices-meet p) (counts_of events) refl
        say-slices (Some i) p = fifth s c f n (slices-break i p)

      say-nesting : (a : Option ℕ) → nest_of (tags_of events) ≡ a → Says text events (after a (λ i. Nested i) (from_slices text events))
      unfolding from_slices
      say-nesting None p = say-slices ((exactly (tags_of events)).0 p) (slices_of text events) refl
      say-nesting (Some i) p = fourth s c f (misplaced i p)

    say-fields : (a : Option ℕ) → fields_of text events ≡ a → Says text events (after a (λ i. Field i) (from_nesting text events))
    unfolding from_nesting
    say-fields None p = say-nesting (fields-meet p) (nest_of (tags_of events)) refl
    say-fields (Some i) p = third s c (fields-break i p)

  -- what the answer says is so
  pub says : Says text events (check_of text events)
  unfolding stairs_of from_fields
  says = rw (← stairs text events) (go (sizes_hold text events) refl (is_utf8 text) refl)
    where
      go : (a : Bool) → sizes_hold text events ≡ a → (b : Bool) → is_utf8 text ≡ b → Says text events (if not a then Err WrongLength else (if not b then Err NotUtf8 else from_fields text events))
      go false p b q = first (λ m. clash (sizes-hold m) p)
      go true p false q = second (sizes-meet p) (λ c. clash (is_true (is_utf8 text) ((characters text).1 c)) q)
      go true p true q = say-fields (sizes-meet p) ((characters text).0 (rw q tt)) (fields_of text events) refl

  -- yes exactly when the rules are met
  pub yes-meets : (check_of text events ≡ Ok tt) ↔ Meets text events
  yes-meets = (λ p. to (check_of text events) p says, λ m. from m (check_of text events) refl says)
    where
      to : (c : Checked) → c ≡ Ok tt → Says text events c → Meets text events
      to c p (all-met m) = m
      to c p (first x) = let z : ◌≡◌ {A = ℕ} 0 1 = cc in absurd (omega arith)
      to c p (second s x) = let z : ◌≡◌ {A = ℕ} 0 1 = cc in absurd (omega arith)
      to c p (third s x y) = let z : ◌≡◌ {A = ℕ} 0 1 = cc in absurd (omega arith)
      to c p (fourth s x f y) = let z : ◌≡◌ {A = ℕ} 0 1 = cc in absurd (omega arith)
      to c p (fifth s x f n y) = let z : ◌≡◌ {A = ℕ} 0 1 = cc in absurd (omega arith)
      to c p (sixth s x f n l y) = let z : ◌≡◌ {A = ℕ} 0 1 = cc in absurd (omega arith)
      to c p (seventh s x f n l m y) = let z : ◌≡◌ {A = ℕ} 0 1 = cc in absurd (omega arith)

      from : Meets text events → (c : Checked) → check_of text events ≡ c → Says text events c → check_of text events ≡ Ok tt
      from m c p (all-met n) = p
      from m c p (first x) = absurd (x m.sizes)
      from m c p (second s x) = absurd (x m.characters)
      from m c p (third {i} s x y) = absurd (y.breaks (m.fields i y.within))
      from m c p (fourth s x f y) = absurd (y.breaks m.nests)
      from m c p (fifth {i} s x f n y) = absurd (y.breaks (m.slices i y.within))
      from m c p (sixth {i} s x f n l y) = absurd (y.breaks (counts-prefix (i + 1) (events_of events) m.counts))
      from m c p (seventh {i} s x f n l k y) = absurd (y.breaks (m.labels i y.within))
