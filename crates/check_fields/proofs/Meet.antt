-- What `fields_hold` decides: the rules of RULES R4, as facts. Assumes nothing.
use Rattle.std.proofs.Common.{if◌then◌else◌, ◌≡◌, refl, sym, ◌∙◌, Bool, true, false, not, ◌&&◌, ◌↔◌, List, ℕ, ◌+◌, ◌*◌, ◌/◌, ◌^◌, ◌≤◌, ◌<◌, div-lt_iff_lt-mul, arith, leb-true, eqb-true, le-leb, eq-eqb, ne_eqb, eqb, leb, length, pow_pos}
use native.Mathlib.Nat.{div-eq_of_lt}
use borrow.Author.Tests.{eqb-false, not-true}
use Rattle.lent.proofs.Laws.{and_left, and_right}
use Rattle.utf8.specs.Utf8.{inside}
use Rattle.event.specs.declared.Event.{Event}
use Rattle.event.specs.Event.{is_enter, columns_of}
use Rattle.check_fields.specs.Fields.{is_list, table_extra, extra_holds, enter_holds, most_spaces, spaces_hold, slice_holds, exit_holds, is_known, fields_hold}
use Rattle.check_fields.specs.Rules.{TableMeets, ExtraMeets, EnterMeets, SpacesMeet, ExitMeets, FieldsMeet}
use Rattle.check_fields.proofs.Cases.{of-list, of-table, of_other, of-chunk, no_chunk, entered, exited}

-- ---- what a conjunction says

both : (a b : Bool) → (a && b) ≡ true → (a ≡ true) × (b ≡ true)
both a b p = (and_left a b p, and_right a b p)

four : (a b c d : Bool) → (a && b && c && d) ≡ true → (a ≡ true) × (b ≡ true) × (c ≡ true) × (d ≡ true)
four a b c d p =
    let q = both (a && b && c) d p in
    let r = both (a && b) c q.0 in
    (and_left a b r.0, and_right a b r.0, r.1, q.1)

-- ---- no bit from bit k on

below-bit : (x k : ℕ) → x / 2 ^ k ≡ 0 → x < 2 ^ k
below-bit x k p =
    let q : x / 2 ^ k < 1 = omega arith in
    let r : x < 1 * 2 ^ k = (div-lt_iff_lt-mul (pow_pos k)).0 q in
    omega arith

module _ (e : Event) where
  table_meets : table_extra e ≡ true → TableMeets e
  unfolding table_extra
  table_meets p =
      let q = both (leb 1 (columns_of e) && leb (columns_of e) 24) (eqb (e.extra / 2 ^ (8 + 2 * columns_of e)) 0) p in
      let r = both (leb 1 (columns_of e)) (leb (columns_of e) 24) q.0 in
      record {
        one = leb-true 1 (columns_of e) r.0;
        most = leb-true (columns_of e) 24 r.1;
        past = below-bit e.extra (8 + 2 * columns_of e) (eqb-true (e.extra / 2 ^ (8 + 2 * columns_of e)) 0 q.1);
      }

  table-holds : TableMeets e → table_extra e ≡ true
  unfolding table_extra
  table-holds m = rw (le-leb 1 (columns_of e) m.one, le-leb (columns_of e) 24 m.most, div-eq_of_lt m.past)

  listed : is_list e ≡ true → extra_holds e ≡ true → e.extra ≤ 1
  listed h p = leb-true e.extra 1 (of-list e h ∙ p)

  extra-meets : extra_holds e ≡ true → ExtraMeets e
  extra-meets p =
      record {
        ordered = λ h. listed (rw h) p;
        unordered = λ h. listed (rw h) p;
        table = λ h. table_meets (of-table e (rw h) h refl ∙ p);
        other = λ h k l. eqb-true e.extra 0 (of_other e (rw (ne_eqb e.name 21 h, ne_eqb e.name 22 k)) l ∙ p);
      }

  extra-holds : ExtraMeets e → extra_holds e ≡ true
  extra-holds m = go (eqb e.name 21) refl (eqb e.name 22) refl (eqb e.name 57) refl
    where
      go : (s : Bool) → eqb e.name 21 ≡ s → (t : Bool) → eqb e.name 22 ≡ t → (u : Bool) → eqb e.name 57 ≡ u → extra_holds e ≡ true
      go true p t q u r = sym (of-list e (rw p)) ∙ le-leb e.extra 1 (m.ordered (eqb-true e.name 21 p))
      go false p true q u r = sym (of-list e (rw (p, q))) ∙ le-leb e.extra 1 (m.unordered (eqb-true e.name 22 q))
      go false p false q true r =
          let n = eqb-true e.name 57 r in
          sym (of-table e (rw (p, q)) n refl) ∙ table-holds (m.table n)
      go false p false q false r =
          let n = eqb-false e.name 57 r in
          sym (of_other e (rw (p, q)) n) ∙ eq-eqb e.extra 0 (m.other (eqb-false e.name 21 p) (eqb-false e.name 22 q) n)

  enter-meets : enter_holds e ≡ true → EnterMeets e
  unfolding enter_holds
  enter-meets p =
      let q = both (eqb e.from.0 0 && eqb e.to.0 0 && eqb e.before 0 && eqb e.after 0) (extra_holds e) p in
      let r = four (eqb e.from.0 0) (eqb e.to.0 0) (eqb e.before 0) (eqb e.after 0) q.0 in
      record {
        from = eqb-true e.from.0 0 r.0;
        to = eqb-true e.to.0 0 r.1;
        before = eqb-true e.before 0 r.2;
        after = eqb-true e.after 0 r.3;
        extra = extra-meets q.1;
      }

  enter-holds : EnterMeets e → enter_holds e ≡ true
  unfolding enter_holds
  enter-holds m =
      rw (
        eq-eqb e.from.0 0 m.from,
        eq-eqb e.to.0 0 m.to,
        eq-eqb e.before 0 m.before,
        eq-eqb e.after 0 m.after,
      )
      (extra-holds m.extra)

  spaces-meet : spaces_hold e ≡ true → SpacesMeet e
  unfolding spaces_hold
  spaces-meet p =
      let q = both (leb e.before (most_spaces e)) (leb e.after (most_spaces e)) p in
      let before = leb-true e.before (most_spaces e) q.0 in
      let after = leb-true e.after (most_spaces e) q.1 in
      record {
        chunk = λ h. let n = of-chunk e h in (omega arith, omega arith);
        other = λ h. let n = no_chunk e h in (omega arith, omega arith);
      }

  spaces-hold : SpacesMeet e → spaces_hold e ≡ true
  unfolding spaces_hold
  spaces-hold m = go (eqb e.name 32) refl
    where
      most : (n : ℕ) → n ≡ most_spaces e → e.before ≤ n → e.after ≤ n → (leb e.before (most_spaces e) && leb e.after (most_spaces e)) ≡ true
      most n p h k = rw (le-leb e.before (most_spaces e) (omega arith), le-leb e.after (most_spaces e) (omega arith))

      go : (t : Bool) → eqb e.name 32 ≡ t → (leb e.before (most_spaces e) && leb e.after (most_spaces e)) ≡ true
      go true p = let h = eqb-true e.name 32 p in let b = m.chunk h in most 3 (of-chunk e h) b.0 b.1
      go false p = let h = eqb-false e.name 32 p in let b = m.other h in most 0 (no_chunk e h) (omega arith) (omega arith)

  module _ (text : List ℕ) where
    exit_meets : exit_holds text e ≡ true → ExitMeets text e
    unfolding exit_holds slice_holds
    exit_meets p =
        let q = both (eqb e.extra 0 && spaces_hold e) (slice_holds text e) p in
        let r = both (eqb e.extra 0) (spaces_hold e) q.0 in
        let s = four (leb e.from.0 e.to.0) (leb e.to.0 (length text)) (not (inside text e.from.0)) (not (inside text e.to.0)) q.1 in
        record {
          extra = eqb-true e.extra 0 r.0;
          spaces = spaces-meet r.1;
          ordered = leb-true e.from.0 e.to.0 s.0;
          within = leb-true e.to.0 (length text) s.1;
          from = not-true (inside text e.from.0) s.2;
          to = not-true (inside text e.to.0) s.3;
        }

    exit-holds : ExitMeets text e → exit_holds text e ≡ true
    unfolding exit_holds slice_holds
    exit-holds m =
        rw (
          eq-eqb e.extra 0 m.extra,
          spaces-hold m.spaces,
          le-leb e.from.0 e.to.0 m.ordered,
          le-leb e.to.0 (length text) m.within,
          m.from,
          m.to,
        )

    known-first : fields_hold text e ≡ true → is_known e ≡ true
    unfolding fields_hold
    known-first p = and_left (is_known e) (if is_enter e then enter_holds e else exit_holds text e) p

    fields-meet : fields_hold text e ≡ true → FieldsMeet text e
    fields-meet p =
        let q = both (leb e.kind 1) (leb e.name 65) (known-first p) in
        record {
          kind = leb-true e.kind 1 q.0;
          name = leb-true e.name 65 q.1;
          enter = λ h. enter-meets (and_right (is_known e) (enter_holds e) (entered e text refl (eq-eqb e.kind 0 h) refl ∙ p));
          exit = λ h. exit_meets (and_right (is_known e) (exit_holds text e) (exited e text refl (rw h) refl ∙ p));
        }

    fields-hold : FieldsMeet text e → fields_hold text e ≡ true
    fields-hold m = go (is_enter e) refl
      where
        known : is_known e ≡ true
        known = rw (le-leb e.kind 1 m.kind, le-leb e.name 65 m.name)

        go : (t : Bool) → is_enter e ≡ t → fields_hold text e ≡ true
        go true p = sym (entered e text refl p refl) ∙ rw (known, enter-holds (m.enter (eqb-true e.kind 0 p)))
        go false p =
            let k = m.kind in
            let n = eqb-false e.kind 0 p in
            let o : e.kind ≡ 1 = omega arith in
            sym (exited e text refl p refl) ∙ rw (known, exit-holds (m.exit o))

    -- an event's fields hold exactly when they meet the rules
    pub meets : (fields_hold text e ≡ true) ↔ FieldsMeet text e
    meets = (fields-meet, fields-hold)
