-- Rule 5 as the pass has it and as a reader has it. Assumes nothing.
use Rattle.std.proofs.Common.{◌≡◌, refl, sym, ◌∙◌, Bool, true, false, ◌||◌, List, ℕ, zero, suc, ◌+◌, ◌/◌, ◌≤◌, add-one, arith, ne_eqb, length}
use native.Mathlib.Decide.{ℕ_discrete}
use Rattle.event.specs.declared.Event.{Event}
use Rattle.event.specs.Event.{is_enter, event_at, events_of}
use Rattle.event.proofs.Laws.{events-next}
use Rattle.character_reference.specs.declared.Marker.{Marker}
use Rattle.character_reference.specs.declared.Marker.TheVariants.{Named, Decimal, Hexadecimal}
use Rattle.check_slices.specs.declared.Seen.{Seen}
use Rattle.check_slices.specs.Slices.{nothing_seen, seen_behind, slice_holds, event_holds, is_level}
use Rattle.check_slices.specs.Slices.{with_marker}
use Rattle.check_slices.proofs.Laws.{behind-heading, behind-enter, behind-sequence, behind-marker, behind-numeric, behind-hexadecimal, behind-exit}
use Rattle.check_rules.specs.Rules.{Enters, Exits, is_marker, Marks, FirstSequence, slice_at, SliceMeets}
use Rattle.check_rules.proofs.States.{state_at, state-first, state-next}
use Rattle.check_rules.proofs.Before.{clash, marks_stay, marks-named, marks-decimal, marks-hexadecimal, marks-start, marks-one, Sequenced, sequence-start, sequence-heading, sequence-seen, sequence-stays}

-- ---- the state before an event

module _ (events : List ℕ) where
  -- a state says what stands before the event k
  pub record Tells (k : ℕ) (seen : Seen) : Type 0 where
    pub marks : Marks events k seen.marker
    pub sequenced : Sequenced events k seen.sequence

  module _ (k : ℕ) (seen : Seen) (t : Tells k seen) where
    abbrev e : Event
    e = event_at events k

    -- the same marker, or the same answer for 14, as before
    stay : is_marker e ≡ false → Marks events (k + 1) seen.marker
    stay h = marks_stay events k seen.marker h t.marks

    keep : (Enters 13 e → ⊥) → (Exits 14 e → ⊥) → Sequenced events (k + 1) seen.sequence
    keep x y = sequence-stays events k seen.sequence x y t.sequenced

    behind-an-enter : is_enter e ≡ true → Tells (k + 1) (seen_behind seen e)
    behind-an-enter p = elim (ℕ_discrete e.name 13) [
      | yes q ↦ rw (← behind-heading e true (sym p) seen refl q) (record { marks = stay (rw p); sequenced = sequence-heading events k (p, q) })
      | no q ↦ rw (← behind-enter e true (sym p) seen refl q) (record { marks = stay (rw p); sequenced = keep (λ x. q x.1) (λ x. clash p x.0) })
    ]

    -- the exit of a marker is that of no 14
    of-marker : (n : ℕ) (m : Marker) → (n ≡ 14 → ⊥) → Exits n e → Marks events (k + 1) m → with_marker m seen ≡ seen_behind seen e → Tells (k + 1) (seen_behind seen e)
    of-marker n m d x h b = rw (← b) (record { marks = h; sequenced = keep (λ y. clash y.0 x.0) (λ y. d (sym x.1 ∙ y.1)) })

    behind-an-exit : is_enter e ≡ false → Tells (k + 1) (seen_behind seen e)
    behind-an-exit p =
        elim (ℕ_discrete e.name 14) [
          | yes q ↦ rw (← behind-sequence e false (sym p) seen refl q) (record { marks = stay (rw (p, q)); sequenced = sequence-seen events k (p, q) })
          | no q ↦ elim (ℕ_discrete e.name 8) [
            | yes r ↦ of-marker 8 Named (λ z. absurd (omega arith)) (p, r) (marks-named events k (p, r)) (behind-marker e false (sym p) seen refl r)
            | no r ↦ elim (ℕ_discrete e.name 9) [
              | yes u ↦ of-marker 9 Decimal (λ z. absurd (omega arith)) (p, u) (marks-decimal events k (p, u)) (behind-numeric e false (sym p) seen refl u)
              | no u ↦ elim (ℕ_discrete e.name 10) [
                | yes w ↦ of-marker 10 Hexadecimal (λ z. absurd (omega arith)) (p, w) (marks-hexadecimal events k (p, w)) (behind-hexadecimal e false (sym p) seen refl w)
                | no w ↦ rw (← behind-exit e false (sym p) seen refl q r u w) (record {
                  marks = stay (rw (p, ne_eqb e.name 8 r, ne_eqb e.name 9 u, ne_eqb e.name 10 w));
                  sequenced = keep (λ x. clash x.0 p) (λ x. q x.1);
                })
              ]
            ]
          ]
        ]

    tells-next : Tells (k + 1) (seen_behind seen e)
    tells-next = go (is_enter e) refl
      where
        go : (b : Bool) → is_enter e ≡ b → Tells (k + 1) (seen_behind seen e)
        go true p = behind-an-enter p
        go false p = behind-an-exit p

  abbrev pub seen_at : ℕ → Seen
  seen_at k = state_at seen_behind nothing_seen (events_of events) k

  -- the pass's state does
  pub tells : (k : ℕ) → k ≤ length events / 20 → Tells k (seen_at k)
  tells zero h = rw (state-first seen_behind nothing_seen (events_of events)) (record { marks = marks-start events; sequenced = sequence-start events })
  tells (suc k) h =
      rw (state-next seen_behind nothing_seen (events_of events) k (events-next events k (omega arith)), ← add-one)
      (tells-next k (seen_at k) (tells k (omega arith)))

-- ---- the rule

module _ (text events : List ℕ) (k : ℕ) (seen : Seen) (t : Tells events k seen) where
  abbrev x : Event
  x = event_at events k

  abbrev s : List ℕ
  s = slice_at events text k

  -- what the pass asks of an exit of an n
  asks : (n : ℕ) → Exits n x → event_holds text seen x ≡ true → slice_holds seen n s ≡ true
  unfolding event_holds
  asks n p h = rw (p.0, p.1) at h

  pub slice-meets : event_holds text seen x ≡ true → SliceMeets events text k
  unfolding slice_holds
  slice-meets h = record {
    ending = λ p. asks 3 p h;
    blank = λ p. asks 4 p h;
    value = λ p. asks 26 p h;
    level = λ p f. (rw (t.sequenced.1 f) at (asks 14 p h));
    underline = λ p. asks 18 p h;
    reference = λ p m q. (rw (marks-one events k m seen.marker q t.marks) (asks 11 p h));
  }

  -- the exit of a 14, first or not
  level_holds : (b : Bool) → seen.sequence ≡ b → (FirstSequence events k → is_level s ≡ true) → (seen.sequence || is_level s) ≡ true
  level_holds true p f = rw p
  level_holds false p f = rw p (f (t.sequenced.0 p))

  exit-holds : SliceMeets events text k → is_enter x ≡ false → slice_holds seen x.name s ≡ true
  unfolding slice_holds
  exit-holds m p =
      elim (ℕ_discrete x.name 3) [
        | yes q ↦ rw q (m.ending (p, q))
        | no a ↦ elim (ℕ_discrete x.name 4) [
          | yes q ↦ rw q (m.blank (p, q))
          | no b ↦ elim (ℕ_discrete x.name 26) [
            | yes q ↦ rw q (m.value (p, q))
            | no c ↦ elim (ℕ_discrete x.name 14) [
              | yes q ↦ rw q (level_holds seen.sequence refl (m.level (p, q)))
              | no d ↦ elim (ℕ_discrete x.name 18) [
                | yes q ↦ rw q (m.underline (p, q))
                | no e ↦ elim (ℕ_discrete x.name 11) [
                  | yes q ↦ rw q (m.reference (p, q) seen.marker t.marks)
                  | no f ↦ rw (ne_eqb x.name 3 a, ne_eqb x.name 4 b, ne_eqb x.name 26 c, ne_eqb x.name 14 d, ne_eqb x.name 18 e, ne_eqb x.name 11 f)
                ]
              ]
            ]
          ]
        ]
      ]

  pub slice-holds : SliceMeets events text k → event_holds text seen x ≡ true
  unfolding event_holds
  slice-holds m = go (is_enter x) refl
    where
      go : (b : Bool) → is_enter x ≡ b → event_holds text seen x ≡ true
      go true p = rw p
      go false p = rw p (exit-holds m p)
