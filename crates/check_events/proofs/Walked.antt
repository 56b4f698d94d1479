-- The loop's invariant, and what each event does to it. Assumes nothing.
use Rattle.std.proofs.Common.{◌≡◌, refl, sym, ◌∙◌, Bool, true, false, not, true≢false, List, ℕ, ◌+◌, ◌/◌, ◌<◌, ◌≤◌, arith, below_more, length, Ok, Err, Some, None}
use borrow.Author.Tests.{not-true, not-false}
use Rattle.event.specs.declared.Event.{Event}
use Rattle.event.specs.Event.{is_enter, event_at, events_of}
use Rattle.check_nesting.proofs.Laws.{Inv, all_closed, left_open}
use Rattle.check_nesting.specs.declared.stack.Nesting.{Nesting}
use Rattle.check_fields.specs.First.{first_break}
use Rattle.check_fields.specs.Fields.{fields_hold, fields_of}
use Rattle.check_fields.proofs.First.{break-next, break-here, break-none}
use Rattle.check_slices.specs.Slices.{nothing_seen, with_sequence, seen_behind, event_holds, slices_of}
use Rattle.check_slices.specs.Counts.{none_counted, Few, counted_behind, count_holds, counts_of}
use Rattle.check_slices.proofs.Laws.{enter-holds, behind-heading}
use Rattle.check_events.specs.declared.Slicing.{Slicing}
use Rattle.check_events.specs.declared.Counting.{Counting}
use Rattle.check_events.specs.declared.Fault.TheVariants.{Nested}
use Rattle.check_events.specs.Looked.{is_use, Looks}
use Rattle.check_events.specs.Walk.{Step, Unsliced, Uncounted, IdleEnter, IdleExit, FieldsTo}
use Rattle.check_events.proofs.Idle.{unsliced-enter, uncounted-exit, uncounted-heading}
use Rattle.check_events.proofs.Follow.{Follows, follow-start, follow-idle, follow-step, follow-end}

-- ---- fields

module _ (text b : List ℕ) (i count : ℕ) (w : FieldsTo text b i) (l : count ≡ length b / 20) where
  pub fields_at : i < count → {e : Event} → e ≡ event_at b i → {x : Bool} → x ≡ fields_hold text e → not x ≡ true → Some i ≡ fields_of text b
  unfolding fields_of
  fields_at h p {x} q r = sym (break-here (fields_hold text) b i count (first_break (fields_hold text) 0 (events_of b)) l w h p q (not-true x r))

  pub fields-next : i < count → {e : Event} → e ≡ event_at b i → {x : Bool} → x ≡ fields_hold text e → not x ≡ false → FieldsTo text b (i + 1)
  fields-next h p {x} q r = break-next (fields_hold text) b i count (first_break (fields_hold text) 0 (events_of b)) l w h p q (not-false x r)

  pub fields-end : count ≤ i → None ≡ fields_of text b
  unfolding fields_of
  fields-end h = sym (break-none (fields_hold text) b i count (first_break (fields_hold text) 0 (events_of b)) l w h)

-- ---- all passes but that for 4

module _ (text b : List ℕ) (count : ℕ) where
  abbrev Slices : ℕ → Slicing → Type 0
  Slices i s = Follows (event_holds text) seen_behind b count (slices_of text b) i s.wrong s.seen

  abbrev Counts : ℕ → Counting → Type 0
  Counts i n = Follows count_holds counted_behind b count (counts_of b) i n.wrong n.counts

  -- before the event i: all that is left says what the whole says
  pub record Walked (i : ℕ) (s : Slicing) (n : Counting) : Type 0 where
    pub fields : FieldsTo text b i
    pub slices : Slices i s
    pub counts : Counts i n
    pub few : Few n.counts
    pub unused : n.uses ≡ false → (k : ℕ) → k < i → is_use (event_at b k) ≡ false

  pub walked_none : {s : Slicing} {n : Counting} → s.wrong ≡ None → s.seen ≡ nothing_seen → n.wrong ≡ None → n.counts ≡ none_counted → Walked 0 s n
  unfolding slices_of counts_of
  walked_none p q r t =
      record {
        fields = refl;
        slices = rw (p, q) (follow-start (event_holds text) seen_behind b count (slices_of text b) refl);
        counts = rw (r, t) (follow-start count_holds counted_behind b count (counts_of b) refl);
        few = rw t (record { definitions = omega arith; footnotes = omega arith });
        unused = λ u k h. absurd (omega arith);
      }

  pub walked-fields : {i : ℕ} {s : Slicing} {n : Counting} → Walked i s n → FieldsTo text b i
  walked-fields w = w.fields

  module _ {i : ℕ} {s : Slicing} {n : Counting} (w : Walked i s n) (l : count ≡ length b / 20) where
    module _ (h : i < count) {e : Event} (p : e ≡ event_at b i) {x : Bool} (q : x ≡ fields_hold text e) where
      pub walked-field : not x ≡ true → Some i ≡ fields_of text b
      walked-field r = fields_at text b i count w.fields l h p q r

      module _ (r : not x ≡ false) where
        -- behind an event that 5 looks at, and 6 and 7 do not
        by-slices : Uncounted e → {v : Slicing} → Slices (i + 1) v → Walked (i + 1) v n
        by-slices y f =
            let u : Uncounted (event_at b i) = rw p at y in
            record {
              fields = fields-next text b i count w.fields l h p q r;
              slices = f;
              counts = follow-idle count_holds counted_behind b count (counts_of b) w.counts l h (u.holds n.counts) (u.stays n.counts);
              few = w.few;
              unused = λ z. below_more (λ (k : ℕ). is_use (event_at b k) ≡ false) i (w.unused z) u.unused;
            }

        slices-on : Unsliced e → Slices (i + 1) s
        slices-on y =
            let u : Unsliced (event_at b i) = rw p at y in
            follow-idle (event_holds text) seen_behind b count (slices_of text b) w.slices l h (u.holds text s.seen) (u.stays s.seen)

        module _ {y : Bool} (k : y ≡ is_enter e) where
          module _ (g : y ≡ true) where
            pub walked-enter : {t : Bool} → IdleEnter e.name t → t ≡ true → Walked (i + 1) s n
            walked-enter m t = by-slices (m.uncounted t e (sym k ∙ g) refl) (slices-on (m.unsliced t e (sym k ∙ g) refl))

            pub walked-heading : e.name ≡ 13 → {v : Slicing} → v.wrong ≡ s.wrong → v.seen ≡ with_sequence false s.seen → Walked (i + 1) v n
            walked-heading m {v} a c =
                let o = behind-heading e (is_enter e) refl s.seen (sym k ∙ g) m in
                by-slices (uncounted-heading e (sym k ∙ g) m)
                (follow-step (event_holds text) seen_behind b count (slices_of text b) w.slices l h p
                (record {
                  over = λ j z. a ∙ z;
                  on = λ z f. a ∙ z;
                  state = λ z f. c ∙ o;
                  breaks = λ z f. absurd (true≢false (enter-holds e (is_enter e) refl text s.seen (sym k ∙ g) ∙ f));
                }))

            pub walked-mark : (e.name ≡ 13 → ⊥) → {v : Counting} → Step count_holds counted_behind i e n.wrong n.counts v.wrong v.counts → Few v.counts → v.uses ≡ true → Walked (i + 1) s v
            walked-mark m o f z =
                record {
                  fields = fields-next text b i count w.fields l h p q r;
                  slices = slices-on (unsliced-enter e (sym k ∙ g) m);
                  counts = follow-step count_holds counted_behind b count (counts_of b) w.counts l h p o;
                  few = f;
                  unused = λ u. absurd (true≢false (sym z ∙ u));
                }

          module _ (g : y ≡ false) where
            pub walked_exit : {t : Bool} → IdleExit e.name t → t ≡ true → Walked (i + 1) s n
            walked_exit m t = by-slices (uncounted-exit e (sym k ∙ g)) (slices-on (m.unsliced t e (sym k ∙ g) refl))

            pub walked-slice : {v : Slicing} → Step (event_holds text) seen_behind i e s.wrong s.seen v.wrong v.seen → Walked (i + 1) v n
            walked-slice o = by-slices (uncounted-exit e (sym k ∙ g)) (follow-step (event_holds text) seen_behind b count (slices_of text b) w.slices l h p o)

    module _ (h : count ≤ i) {v : Nesting} (x : Inv b v i) where
      -- elements are left open
      pub walked-open : (v.depth ≡ 0 → ⊥) → Looks text b (Err (Nested count))
      walked-open d = (fields-end text b i count w.fields l h, rw l (left_open x (omega arith) d))

      -- the end
      pub walked_all : v.depth ≡ 0 → Looks text b (Ok (record { slices = s.wrong; counts = n.wrong; uses = n.uses }))
      walked_all d = (
        fields-end text b i count w.fields l h,
        all_closed x (omega arith) d,
        record {
          slices = follow-end (event_holds text) seen_behind b count (slices_of text b) w.slices l h;
          counts = follow-end count_holds counted_behind b count (counts_of b) w.counts l h;
          unused = λ u k y. w.unused u k (omega arith);
        },
      )
