-- What other crates go by: yes exactly when every event holds, else the lowest that does not. Assumes nothing.
use Rattle.std.proofs.Common.{Some, None, ◌≡◌, refl, sym, ◌∙◌, ◌↔◌, Bool, true, false, ◌||◌, true≢false, List, [], ◌∷◌, ℕ, zero, suc, ◌+◌, ◌<◌, arith, drop}
use mathlib.Core.Bool.{or-true}
use lib.Seq.{drop-nil}
use Rattle.lent.specs.Bytes.{same, listed}
use Rattle.event.specs.declared.Event.{Event}
use Rattle.event.specs.Event.{events_of}
use Rattle.normalize_identifier.specs.Identity.{identity_of}
use Rattle.lent.proofs.Same.{same-iff}
use Rattle.check_labels.specs.Labels.{Part, slice, label_of, identities, label_holds, undefined_from, undefined_of}

-- ---- the answer

-- of all events: each of es holds, where k has those behind it
abbrev pub AllHold : List ℕ → List Event → List Event → Type 0
AllHold text all es = (k : ℕ) (e : Event) (behind : List Event) → drop k es ≡ e ∷ behind → label_holds text all e behind ≡ true

-- the one at i does not, and each before it does
pub record Lowest (text : List ℕ) (all es : List Event) (i : ℕ) : Type 0 where
  pub event : Event
  pub behind : List Event
  pub place : drop i es ≡ event ∷ behind
  pub fails : label_holds text all event behind ≡ false
  pub before : (k : ℕ) (e : Event) (es' : List Event) → k < i → drop k es ≡ e ∷ es' → label_holds text all e es' ≡ true

module _ (text : List ℕ) (all : List Event) where
  none-behind : {X : Type 0} (k : ℕ) {e : Event} {es : List Event} → drop k [] ≡ e ∷ es → X
  none-behind k {e} {es} q = let y : ◌≡◌ {A = List Event} [] (e ∷ es) = sym (drop-nil k) ∙ q in let z : ◌≡◌ {A = ℕ} 0 1 = cc in absurd (omega arith)

  from-yes : (j : ℕ) (es : List Event) → undefined_from text all j es ≡ None → AllHold text all es
  unfolding undefined_from
  from-yes j [] p k e behind q = none-behind k q
  from-yes j (x ∷ es) p k e behind q = go (label_holds text all x es) refl k q (from-yes (j + 1) es)
    where
      go : (t : Bool) → label_holds text all x es ≡ t → (k : ℕ) → drop k (x ∷ es) ≡ e ∷ behind → (undefined_from text all (j + 1) es ≡ None → AllHold text all es) → label_holds text all e behind ≡ true
      go true r zero q ih = cc
      go true r (suc k) q ih = ih (rw r at p) k e behind q
      go false r k q ih = let y : Some j ≡ None = rw r at p in let z : ◌≡◌ {A = ℕ} 0 1 = cc in absurd (omega arith)

  yes-from : (j : ℕ) (es : List Event) → AllHold text all es → undefined_from text all j es ≡ None
  unfolding undefined_from
  yes-from j [] h = refl
  yes-from j (x ∷ es) h = rw (h 0 x es refl) (yes-from (j + 1) es (λ k. h (suc k)))

  from_at : (j i : ℕ) (es : List Event) → undefined_from text all j es ≡ Some i → (k : ℕ) × (i ≡ j + k) × Lowest text all es k
  unfolding undefined_from
  from_at j i [] p = let z : ◌≡◌ {A = ℕ} 0 1 = cc in absurd (omega arith)
  from_at j i (x ∷ es) p = go (label_holds text all x es) refl (from_at (j + 1) i es)
    where
      go : (t : Bool) → label_holds text all x es ≡ t → (undefined_from text all (j + 1) es ≡ Some i → (k : ℕ) × (i ≡ j + 1 + k) × Lowest text all es k) → (k : ℕ) × (i ≡ j + k) × Lowest text all (x ∷ es) k
      go true r ih =
          let f = ih (rw r at p) in
          let l = f.2 in (
            suc f.0,
            omega (arith, f.1),
            record {
              event = l.event;
              behind = l.behind;
              place = l.place;
              fails = l.fails;
              before = elim [ zero ↦ λ e es' h q. (cc) | suc k ↦ λ e es' h q. l.before k e es' (omega arith) q ];
            },
          )
      go false r ih =
          let y : Some j ≡ Some i = rw r at p in
          let z : j ≡ i = cc in
          (0, omega arith, record { event = x; behind = es; place = refl; fails = r; before = λ k e es' h q. absurd (omega arith) })

module _ (text events : List ℕ) where
  -- yes, exactly when no link, image or call is undefined
  pub yes_iff : (undefined_of text events ≡ None) ↔ AllHold text (events_of events) (events_of events)
  unfolding undefined_of
  yes_iff = (from-yes text (events_of events) 0 (events_of events), yes-from text (events_of events) 0 (events_of events))

  -- at i, then i is the lowest
  pub at-lowest : (i : ℕ) → undefined_of text events ≡ Some i → Lowest text (events_of events) (events_of events) i
  unfolding undefined_of
  at-lowest i p =
      let r = from_at text (events_of events) 0 i (events_of events) p in
      let e : i ≡ r.0 = omega (arith, r.1) in
      rw e r.2

-- ---- what it is that a definition has a label

-- one of the events is the exit of an n whose slice has the identity s
pub data Defines (n : ℕ) (text s : List ℕ) : List Event → Type 0 where
  here : {e : Event} {es : List Event} {from to : ℕ} → label_of n e ≡ Some (from, to) → s ≡ identity_of (slice text from to) → Defines n text s (e ∷ es)
  behind : {e : Event} {es : List Event} → Defines n text s es → Defines n text s (e ∷ es)

module _ (n : ℕ) (text s : List ℕ) where
  to-defines : (es : List Event) → listed (identities n text es) s ≡ true → Defines n text s es
  unfolding identities
  to-defines [] p = absurd (true≢false (sym p))
  to-defines (e ∷ es) p = go (label_of n e) refl p (to-defines es)
    where
      go : (l : Part) → label_of n e ≡ l → listed (identities n text (e ∷ es)) s ≡ true → (listed (identities n text es) s ≡ true → Defines n text s es) → Defines n text s (e ∷ es)
      go None r p ih = behind (ih (rw (identities, r) at p))
      go (Some (from, to)) r p ih = pick (same s (identity_of (slice text from to))) refl (rw (identities, r) at p)
        where
          pick : (t : Bool) → same s (identity_of (slice text from to)) ≡ t → (same s (identity_of (slice text from to)) || listed (identities n text es) s) ≡ true → Defines n text s (e ∷ es)
          pick true q h = here r ((same-iff s (identity_of (slice text from to))).0 q)
          pick false q h = behind (ih (rw q at h))

  from-defines : {es : List Event} → Defines n text s es → listed (identities n text es) s ≡ true
  unfolding identities
  from-defines (here {from = from} {to = to} r q) = rw (identities, r, (same-iff s (identity_of (slice text from to))).1 q)
  from-defines (behind {e} {es} d) = go (label_of n e) refl (from-defines d)
    where
      go : (l : Part) → label_of n e ≡ l → listed (identities n text es) s ≡ true → listed (identities n text (e ∷ es)) s ≡ true
      go None r h = rw (identities, r) h
      go (Some (from, to)) r h = rw (identities, r, h) (or-true (same s (identity_of (slice text from to))))

  -- a definition has the identity s, exactly when `has_label` says so
  pub defined-iff : (es : List Event) → (listed (identities n text es) s ≡ true) ↔ Defines n text s es
  defined-iff es = (to-defines es, from-defines)
