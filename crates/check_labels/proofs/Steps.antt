-- Why the code's turns are the definition's. Assumes nothing.
use Rattle.std.proofs.Common.{Option, Some, None, ◌≡◌, refl, sym, ap, ◌∙◌, Bool, true, false, ◌&&◌, List, [], ◌∷◌, ℕ, ◌+◌, ◌-◌, ◌/◌, ◌<◌, ◌≤◌, arith, eqb, leb, length, drop, eq-eqb, ne_eqb}
use Rattle.lent.specs.Bytes.{one_of, same, listed}
use Rattle.event.specs.declared.Event.{Event}
use Rattle.event.specs.Event.{is_enter, event_at, events_of}
use Rattle.event.proofs.Laws.{events-next, events-end}
use Rattle.normalize_identifier.specs.Identity.{identity_of}
use Rattle.check_labels.specs.declared.Turn.{Turn}
use Rattle.check_labels.specs.declared.Turn.TheVariants.{On, Own, Out}
use Rattle.check_labels.specs.Labels.{Part, slice, label_of, identities, turn_of, own_part, sought_of, is_defined, label_holds, undefined_from, undefined_of}

-- ---- an element's own part

module _ (n : ℕ) (e : Event) where
  pub label-enter : e.kind ≡ 0 → label_of n e ≡ None
  unfolding label_of
  label-enter k = rw (eq-eqb e.kind 0 k)

  pub label-other : (e.name ≡ n → ⊥) → label_of n e ≡ None
  unfolding label_of
  label-other p = go (is_enter e) refl
    where
      go : (t : Bool) → is_enter e ≡ t → label_of n e ≡ None
      go true k = rw k
      go false k = rw (k, ne_eqb e.name n p)

  pub label-here : (e.kind ≡ 0 → ⊥) → e.name ≡ n → label_of n e ≡ Some (e.from.0, e.to.0)
  unfolding label_of
  label-here k p = rw (ne_eqb e.kind 0 k, eq-eqb e.name n p)

-- no deeper than one more
pub turn-depth : (n at depth : ℕ) (e : Event) {t : Turn} {d i : ℕ} → t ≡ turn_of n at depth e → t ≡ On d → depth ≤ i → d ≤ i + 1
unfolding turn_of
turn-depth n at depth e {d = d} {i = i} p q h = go (leb e.name 4) (is_enter e) (eqb depth 0) (eqb depth at && eqb e.name n) refl refl refl refl (sym q ∙ p)
  where
    go : (x y z w : Bool) → leb e.name 4 ≡ x → is_enter e ≡ y → eqb depth 0 ≡ z → (eqb depth at && eqb e.name n) ≡ w → On d ≡ turn_of n at depth e → d ≤ i + 1
    go true y z w a b c f r = let u : On d ≡ On depth = rw a at r in let v : d ≡ depth = cc in omega arith
    go false true z w a b c f r = let u : On d ≡ On (depth + 1) = rw (a, b) at r in let v : d ≡ depth + 1 = cc in omega arith
    go false false true w a b c f r = let u : On d ≡ Out = rw (a, b, c) at r in let v : ◌≡◌ {A = ℕ} 0 1 = cc in absurd (omega arith)
    go false false false true a b c f r =
        let u : On d ≡ Own e.from.0 e.to.0 = rw (a, b, c, f) at r in
        let v : ◌≡◌ {A = ℕ} 0 1 = cc in
        absurd (omega arith)
    go false false false false a b c f r = let u : On d ≡ On (depth - 1) = rw (a, b, c, f) at r in let v : d ≡ depth - 1 = cc in omega arith

module _ (b : List ℕ) {i count : ℕ} (q : count ≡ length b / 20) (h : i < count) where
  here : drop i (events_of b) ≡ event_at b i ∷ drop (i + 1) (events_of b)
  here = events-next b i (omega arith)

module _ (b : List ℕ) (n at depth : ℕ) {i count : ℕ} {w : Part} (q : count ≡ length b / 20) (h : i < count) (e : own_part n at depth (drop i (events_of b)) ≡ w)
    {v : Event} {t : Turn} (g : v ≡ event_at b i) (p : t ≡ turn_of n at depth v) where
  turned : turn_of n at depth (event_at b i) ≡ t
  turned = ap (turn_of n at depth) (sym g) ∙ sym p

  pub own_on : {d : ℕ} → t ≡ On d → own_part n at d (drop (i + 1) (events_of b)) ≡ w
  unfolding own_part
  own_on r = rw (here b q h, own_part, turned, r) at e

  pub own-found : {x y : ℕ} → t ≡ Own x y → Some (x, y) ≡ w
  unfolding own_part
  own-found r = rw (here b q h, own_part, turned, r) at e

  pub own_out : t ≡ Out → None ≡ w
  unfolding own_part
  own_out r = rw (here b q h, own_part, turned, r) at e

pub own-end : (b : List ℕ) (n at depth : ℕ) {i count : ℕ} {w : Part} → count ≡ length b / 20 → count ≤ i → own_part n at depth (drop i (events_of b)) ≡ w → None ≡ w
unfolding own_part
own-end b n at depth {i} q h e = let l : length b / 20 ≤ i = omega arith in rw (events-end b i l) at e

-- ---- the search among the definitions' labels

module _ (text b : List ℕ) (n : ℕ) (s : List ℕ) {i count : ℕ} {w : Bool} (q : count ≡ length b / 20) (h : i < count) (e : listed (identities n text (drop i (events_of b))) s ≡ w)
    {v : Event} {p : Part} (g : v ≡ event_at b i) (r : p ≡ label_of n v) where
  labelled : label_of n (event_at b i) ≡ p
  labelled = ap (label_of n) (sym g) ∙ sym r

  module _ {from to : ℕ} (m : p ≡ Some (from, to)) where
    pub listed-other : same s (identity_of (slice text from to)) ≡ false → listed (identities n text (drop (i + 1) (events_of b))) s ≡ w
    unfolding identities
    listed-other f = rw (here b q h, identities, labelled, m, f) at e

    pub listed_found : {t : Bool} {label : List ℕ} → label ≡ slice text from to → t ≡ same s (identity_of label) → t ≡ true → true ≡ w
    unfolding identities
    listed_found l t u =
        let y : same s (identity_of (slice text from to)) ≡ true = rw (← l) (sym t ∙ u) in
        rw (here b q h, identities, labelled, m, y) at e

pub listed-end : (text b : List ℕ) (n : ℕ) (s : List ℕ) {i count : ℕ} {w : Bool} → count ≡ length b / 20 → count ≤ i → listed (identities n text (drop i (events_of b))) s ≡ w → false ≡ w
unfolding identities
listed-end text b n s {i} q h e = let l : length b / 20 ≤ i = omega arith in rw (events-end b i l) at e

-- ---- one event

module _ (text : List ℕ) (ids : List (List ℕ)) {p : Part} where
  pub defined-none : p ≡ None → true ≡ is_defined text ids p
  unfolding is_defined
  defined-none q = rw q

module _ (text b : List ℕ) (e : Event) (es : List Event) {k : ℕ} (r : k ≡ e.kind) where
  pub holds-exit : (k ≡ 0 → ⊥) → true ≡ label_holds text (events_of b) e es
  unfolding label_holds
  holds-exit m = rw (ne_eqb e.kind 0 (λ y. m (r ∙ y)))

  module _ (m : k ≡ 0) {x : ℕ} (p : x ≡ e.name) where
    module _ {u : Bool} (o : u ≡ one_of (45 ∷ 46 ∷ []) x) where
      pub holds-medium : {s : Part} {t : Bool} → u ≡ true → s ≡ sought_of es → t ≡ is_defined text (identities 54 text (events_of b)) s → t ≡ label_holds text (events_of b) e es
      unfolding label_holds
      holds-medium y g h = rw (eq-eqb e.kind 0 (sym r ∙ m), ← p, ← o, y, ← g) h

      pub holds-other : u ≡ false → (x ≡ 62 → ⊥) → true ≡ label_holds text (events_of b) e es
      unfolding label_holds
      holds-other y z = rw (eq-eqb e.kind 0 (sym r ∙ m), ← p, ← o, y, ne_eqb x 62 z)

-- ---- the first that does not hold

pub first-start : (text b : List ℕ) → undefined_from text (events_of b) 0 (drop 0 (events_of b)) ≡ undefined_of text b
unfolding undefined_of
first-start text b = refl

module _ (text b : List ℕ) {i count : ℕ} {w : Option ℕ} (q : count ≡ length b / 20) (e : undefined_from text (events_of b) i (drop i (events_of b)) ≡ w) where
  pub first_more : {t : Bool} → i < count → t ≡ label_holds text (events_of b) (event_at b i) (drop (i + 1) (events_of b)) → t ≡ true
      → undefined_from text (events_of b) (i + 1) (drop (i + 1) (events_of b)) ≡ w
  unfolding undefined_from
  first_more h t u = rw (here b q h, ← t, u) at e

  pub first_found : {t : Bool} → i < count → t ≡ label_holds text (events_of b) (event_at b i) (drop (i + 1) (events_of b)) → t ≡ false → Some i ≡ w
  unfolding undefined_from
  first_found h t u = rw (here b q h, ← t, u) at e

  pub first-end : count ≤ i → None ≡ w
  unfolding undefined_from
  first-end h = let l : length b / 20 ≤ i = omega arith in rw (events-end b i l) at e
