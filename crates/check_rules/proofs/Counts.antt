-- Rule 6 as the pass has it and as a reader has it. Assumes nothing.
use Rattle.std.proofs.Common.{Some, None, if◌then◌else◌, ◌≡◌, refl, sym, ap, ◌∙◌, Bool, true, false, ◌↔◌, List, [], ◌∷◌, ℕ, zero, suc, ◌+◌, ◌≤◌, ◌<◌, add-one, arith, ne_eqb, lt-ltb, eqb, length, take}
use native.Mathlib.Decide.{ℕ_discrete}
use Rattle.event.specs.declared.Event.{Event}
use Rattle.event.specs.Event.{is_enter, events_of}
use Rattle.check_slices.specs.declared.Counts.{Counts}
use Rattle.check_slices.specs.First.{first_from}
use Rattle.check_slices.specs.Counts.{none_counted, Few, counted_behind, count_holds, counts_of}
use Rattle.check_slices.proofs.Laws.{room-for-definition, room-for-footnote, others-hold, exits-hold, one-definition, one-footnote, others-uncounted, exits-uncounted, stays-few}
use Rattle.check_rules.specs.Rules.{enters, CountsMeet, TooMany}
use Rattle.check_rules.proofs.Before.{clash}

-- what was counted and what is still to come are not too many
pub record Within (n : Counts) (es : List Event) : Type 0 where
  pub definitions : n.definitions + enters 53 es ≤ 128
  pub footnotes : n.footnotes + enters 63 es ≤ 64

-- ---- one event

-- it adds a definitions and b footnote definitions, and passes where they are not too many then
record Adds (n : Counts) (e : Event) : Type 0 where
  pub a : ℕ
  pub b : ℕ
  pub definitions : (counted_behind n e).definitions ≡ n.definitions + a
  pub footnotes : (counted_behind n e).footnotes ≡ n.footnotes + b
  pub more : (es : List Event) → enters 53 (e ∷ es) ≡ enters 53 es + a
  pub others : (es : List Event) → enters 63 (e ∷ es) ≡ enters 63 es + b
  pub passes : Few (counted_behind n e) → count_holds n e ≡ true

module _ (n : Counts) (e : Event) where
  adds-nothing : counted_behind n e ≡ n → count_holds n e ≡ true → ((es : List Event) → enters 53 (e ∷ es) ≡ enters 53 es) → ((es : List Event) → enters 63 (e ∷ es) ≡ enters 63 es) → Adds n e
  adds-nothing p h q r = record {
    a = 0;
    b = 0;
    definitions = ap (λ (m : Counts). m.definitions) p ∙ omega arith;
    footnotes = ap (λ (m : Counts). m.footnotes) p ∙ omega arith;
    more = λ es. q es ∙ omega arith;
    others = λ es. r es ∙ omega arith;
    passes = λ f. h;
  }

  adds-definition : is_enter e ≡ true → e.name ≡ 53 → Adds n e
  adds-definition p q =
      let c = one-definition e true (sym p) n refl q in
      record {
        a = 1;
        b = 0;
        definitions = sym (ap (λ (m : Counts). m.definitions) c);
        footnotes = sym (ap (λ (m : Counts). m.footnotes) c) ∙ omega arith;
        more = λ es. (rw (p, q));
        others = λ es. (rw (p, q) (omega arith));
        passes = λ f. sym (room-for-definition e true (sym p) n refl q) ∙ lt-ltb n.definitions 128 (let g = f.definitions in let h = ap (λ (m : Counts). m.definitions) c in omega arith);
      }

  adds-footnote : is_enter e ≡ true → e.name ≡ 63 → Adds n e
  adds-footnote p q =
      let c = one-footnote e true (sym p) n refl q in
      record {
        a = 0;
        b = 1;
        definitions = sym (ap (λ (m : Counts). m.definitions) c) ∙ omega arith;
        footnotes = sym (ap (λ (m : Counts). m.footnotes) c);
        more = λ es. (rw (p, q) (omega arith));
        others = λ es. (rw (p, q));
        passes = λ f. sym (room-for-footnote e true (sym p) n refl q) ∙ lt-ltb n.footnotes 64 (let g = f.footnotes in let h = ap (λ (m : Counts). m.footnotes) c in omega arith);
      }

  adds : Adds n e
  adds = go (is_enter e) refl
    where
      go : (t : Bool) → is_enter e ≡ t → Adds n e
      go false p = adds-nothing (sym (exits-uncounted e false (sym p) n refl)) (sym (exits-hold e false (sym p) n refl)) (λ es. (rw p)) (λ es. (rw p))
      go true p =
          elim (ℕ_discrete e.name 53) [
            | yes q ↦ adds-definition p q
            | no q ↦ elim (ℕ_discrete e.name 63) [
              | yes r ↦ adds-footnote p r
              | no r ↦ adds-nothing (sym (others-uncounted e true (sym p) n refl q r)) (sym (others-hold e true (sym p) n refl q r)) (λ es. (rw (p, ne_eqb e.name 53 q))) (λ es. (rw (p, ne_eqb e.name 63 r)))
            ]
          ]

  later : (es : List Event) → Within n (e ∷ es) → Within (counted_behind n e) es
  later es w =
      let x = adds in
      let d = w.definitions in
      let f = w.footnotes in
      let dm = x.more es in
      let fm = x.others es in
      record { definitions = omega (arith, x.definitions); footnotes = omega (arith, x.footnotes) }

  sooner : (es : List Event) → Within (counted_behind n e) es → Within n (e ∷ es)
  sooner es w =
      let x = adds in
      let d = w.definitions in
      let f = w.footnotes in
      let dm = x.definitions in
      let fm = x.footnotes in
      record { definitions = omega (arith, x.more es); footnotes = omega (arith, x.others es) }

  pass : (es : List Event) → Within n (e ∷ es) → count_holds n e ≡ true
  pass es w =
      let v = later es w in
      let d = v.definitions in
      let f = v.footnotes in
      adds.passes (record { definitions = omega arith; footnotes = omega arith })

-- ---- all of them

few-within : (n : Counts) → Few n → Within n []
few-within n f = let d = f.definitions in let g = f.footnotes in record { definitions = omega arith; footnotes = omega arith }

yes-within : (i : ℕ) (n : Counts) (es : List Event) → Few n → first_from count_holds counted_behind i n es ≡ None → Within n es
unfolding first_from
yes-within i n [] f p = few-within n f
yes-within i n (e ∷ es) f p = go (λ g q. yes-within (i + 1) (counted_behind n e) es g q) (count_holds n e) refl
  where
    go : (Few (counted_behind n e) → first_from count_holds counted_behind (i + 1) (counted_behind n e) es ≡ None → Within (counted_behind n e) es)
        → (t : Bool) → count_holds n e ≡ t → Within n (e ∷ es)
    go more true h = sooner n e es (more (stays-few n (counted_behind n e) e true f (sym h) refl refl) (rw h at p))
    go more false h = let q : Some i ≡ None = rw h at p in let z : ◌≡◌ {A = ℕ} 0 1 = cc in absurd (omega arith)

within-yes : (i : ℕ) (n : Counts) (es : List Event) → Within n es → first_from count_holds counted_behind i n es ≡ None
unfolding first_from
within-yes i n [] w = refl
within-yes i n (e ∷ es) w = rw (pass n e es w) (within-yes (i + 1) (counted_behind n e) es (later n e es w))

-- the first that is one too many, k places on
record Past (n : Counts) (es : List Event) (k : ℕ) : Type 0 where
  pub inside : k < length es
  pub before : Within n (take k es)
  pub breaks : Within n (take (suc k) es) → ⊥

at-past : (i j : ℕ) (n : Counts) (es : List Event) → Few n → first_from count_holds counted_behind i n es ≡ Some j → (k : ℕ) × (j ≡ i + k) × Past n es k
unfolding first_from
at-past i j n [] f p = let z : ◌≡◌ {A = ℕ} 0 1 = cc in absurd (omega arith)
at-past i j n (e ∷ es) f p = go (λ g q. at-past (i + 1) j (counted_behind n e) es g q) (count_holds n e) refl
  where
    go : (Few (counted_behind n e) → first_from count_holds counted_behind (i + 1) (counted_behind n e) es ≡ Some j → (k : ℕ) × (j ≡ i + 1 + k) × Past (counted_behind n e) es k)
        → (t : Bool) → count_holds n e ≡ t → (k : ℕ) × (j ≡ i + k) × Past n (e ∷ es) k
    go more true h =
        let r = more (stays-few n (counted_behind n e) e true f (sym h) refl refl) (rw h at p) in
        let x = r.2 in (
          suc r.0,
          omega (arith, r.1),
          record { inside = let l = x.inside in omega arith; before = sooner n e (take r.0 es) x.before; breaks = λ w. x.breaks (later n e (take (suc r.0) es) w) },
        )
    go more false h =
        let q : Some i ≡ Some j = rw h at p in
        let y : i ≡ j = cc in
        (0, omega arith, record { inside = omega arith; before = few-within n f; breaks = λ w. clash (pass n e [] w) h })

none-few : Few none_counted
none-few = record { definitions = omega arith; footnotes = omega arith }

module _ (es : List Event) where
  meets-within : CountsMeet es → Within none_counted es
  meets-within m = let d = m.definitions in let f = m.footnotes in record { definitions = omega arith; footnotes = omega arith }

  within-meets : Within none_counted es → CountsMeet es
  within-meets w = let d = w.definitions in let f = w.footnotes in record { definitions = omega arith; footnotes = omega arith }

-- a part from the start on has no more than the whole
fewer : (n k : ℕ) (es : List Event) → enters n (take k es) ≤ enters n es
fewer n zero es = omega arith
fewer n (suc k) [] = omega arith
fewer n (suc k) (e ∷ es) = go (is_enter e) (eqb e.name n) (fewer n k es)
  where
    go : (t u : Bool) → enters n (take k es) ≤ enters n es
        → (if t then (if u then enters n (take k es) + 1 else enters n (take k es)) else enters n (take k es)) ≤ (if t then (if u then enters n es + 1 else enters n es) else enters n es)
    go true true h = omega arith
    go true false h = h
    go false u h = h

pub counts-prefix : (k : ℕ) (es : List Event) → CountsMeet es → CountsMeet (take k es)
counts-prefix k es m =
    let d = m.definitions in
    let f = m.footnotes in
    let p = fewer 53 k es in
    let q = fewer 63 k es in
    record { definitions = omega arith; footnotes = omega arith }

module _ (events : List ℕ) where
  pub counts-meet : (counts_of events ≡ None) ↔ CountsMeet (events_of events)
  unfolding counts_of
  counts-meet = (λ p. within-meets (events_of events) (yes-within 0 none_counted (events_of events) none-few p), λ m. within-yes 0 none_counted (events_of events) (meets-within (events_of events) m))

  pub counts-break : (i : ℕ) → counts_of events ≡ Some i → TooMany (events_of events) i
  unfolding counts_of
  counts-break i p =
      let r = at-past 0 i none_counted (events_of events) none-few p in
      let x = r.2 in
      let e : r.0 ≡ i = omega (arith, r.1) in
      record {
        within = rw e at x.inside;
        before = within-meets (take i (events_of events)) (rw e at x.before);
        breaks = λ m. x.breaks (rw (e, ← add-one) (meets-within (take (i + 1) (events_of events)) m));
      }
