-- Rule 7 as the pass has it and as a reader has it. Assumes nothing.
use Rattle.std.proofs.Common.{Some, None, ◌≡◌, refl, sym, ap, ◌∙◌, Bool, true, false, ◌||◌, List, [], ◌∷◌, ℕ, ◌+◌, ◌/◌, ◌<◌, arith, eqb-true, eqb, leb, length, drop}
use native.Mathlib.Decide.{dec_lt}
use Rattle.lent.specs.Bytes.{one_of}
use Rattle.event.specs.declared.Event.{Event}
use Rattle.event.specs.Event.{is_enter, named, event_at, events_of}
use Rattle.event.proofs.Laws.{events-next, events-end}
use Rattle.check_labels.specs.Labels.{identities, sought_of, is_defined, label_holds, undefined_of}
use Rattle.check_labels.proofs.Laws.{yes_iff, at-lowest}
use Rattle.check_nesting.specs.Tag.{tags_of}
use Rattle.check_nesting.specs.Nests.{Nests}
use Rattle.check_rules.specs.Elements.{Forest, ElementAt, sought_in}
use Rattle.check_rules.proofs.Elements.{sought-is}
use Rattle.check_rules.proofs.Trees.{element-at}
use Rattle.check_rules.specs.Rules.{LabelMeets, LabelAt, Each, Earliest}
use Rattle.check_rules.proofs.Before.{clash}

only : (t : Bool) → (t || false) ≡ true → t ≡ true
only true p = refl
only false p = p

module _ (text : List ℕ) (es : List Event) (e : Event) (inside : Forest) (behind : List Event) where
  label-meets : sought_of behind ≡ sought_in inside → label_holds text es e behind ≡ true → LabelMeets text es e inside
  unfolding label_holds
  label-meets s h =
      record {
        media = λ p q. (rw (p, q, s) at h);
        call = λ p q. (rw (p, eqb-true e.name 62 (only (eqb e.name 62) q), s) at h);
      }

-- the two events at which something is sought
label-holds : (text : List ℕ) (es : List Event) (e : Event) (behind : List Event)
    → (is_enter e ≡ true → named (45 ∷ 46 ∷ []) e ≡ true → is_defined text (identities 54 text es) (sought_of behind) ≡ true)
    → (is_enter e ≡ true → named (62 ∷ []) e ≡ true → is_defined text (identities 65 text es) (sought_of behind) ≡ true)
    → label_holds text es e behind ≡ true
unfolding label_holds
label-holds text es e behind media call = go (is_enter e) refl (named (45 ∷ 46 ∷ []) e) refl (named (62 ∷ []) e) refl
  where
    go : (t : Bool) → is_enter e ≡ t → (u : Bool) → named (45 ∷ 46 ∷ []) e ≡ u → (w : Bool) → named (62 ∷ []) e ≡ w → label_holds text es e behind ≡ true
    go false p u q w r = rw p
    go true p true q w r = rw (p, q) (media p q)
    go true p false q true r = rw (p, q, r) (call p r)
    go true p false q false r = rw (p, q, r)

-- their names are no names of 0 to 4
media-name : (n : ℕ) → one_of (45 ∷ 46 ∷ []) n ≡ true → leb n 4 ≡ false
media-name n = go (eqb n 45) refl (eqb n 46) refl
  where
    go : (t : Bool) → eqb n 45 ≡ t → (u : Bool) → eqb n 46 ≡ u → (eqb n 45 || (eqb n 46 || false)) ≡ true → leb n 4 ≡ false
    go true p u q h = rw (eqb-true n 45 p)
    go false p true q h = rw (eqb-true n 46 q)
    go false p false q h = clash h (rw (p, q))

call-name : (n : ℕ) → one_of (62 ∷ []) n ≡ true → leb n 4 ≡ false
call-name n h = rw (eqb-true n 62 (only (eqb n 62) h))

module _ (text events : List ℕ) where
  abbrev es : List Event
  es = events_of events

  -- an event with those behind it is one of the list's, by its place
  inside-list : (k : ℕ) {e : Event} {behind : List Event} → drop k es ≡ e ∷ behind → k < length events / 20
  inside-list k {e} {behind} p = elim (dec_lt k (length events / 20)) [
    | yes h ↦ h
    | no h ↦ let q = events-end events k (omega arith) in let z : ◌≡◌ {A = ℕ} 0 1 = cc in absurd (omega arith)
  ]

  placed : (k : ℕ) {e : Event} {behind : List Event} → drop k es ≡ e ∷ behind → (e ≡ event_at events k) × (behind ≡ drop (k + 1) es)
  placed k p = let q = events-next events k (inside-list k p) in (cc, cc)

  -- the walk finds what the tree shows
  sought-at : (k : ℕ) (inside : Forest) → ElementAt es k (event_at events k) inside → leb (event_at events k).name 4 ≡ false → sought_of (drop (k + 1) es) ≡ sought_in inside
  sought-at k inside x h =
      let q = placed k x.here in
      let n : leb x.exit.name 4 ≡ false = rw x.pair.2 h in
      ap sought_of (sym q.1) ∙ sought-is inside x.exit x.rest x.paired n x.pair.1

  module _ (k : ℕ) (l : k < length events / 20) where
    abbrev e : Event
    e = event_at events k

    meets_at : label_holds text es e (drop (k + 1) es) ≡ true → LabelAt text events k
    meets_at h inside x =
        record {
          media = λ p q. (label-meets text es e inside (drop (k + 1) es) (sought-at k inside x (media-name e.name q)) h).media p q;
          call = λ p q. (label-meets text es e inside (drop (k + 1) es) (sought-at k inside x (call-name e.name q)) h).call p q;
        }

    holds_at_lem : Nests (tags_of events) → LabelAt text events k → label_holds text es e (drop (k + 1) es) ≡ true
    holds_at_lem w m =
        label-holds text es e (drop (k + 1) es)
        (λ p q. (let f = element-at events k w l p in rw (sought-at k f.0 f.1 (media-name e.name q)) ((m f.0 f.1).media p q)))
        (λ p q. (let f = element-at events k w l p in rw (sought-at k f.0 f.1 (call-name e.name q)) ((m f.0 f.1).call p q)))

  pub labels-meet : undefined_of text events ≡ None → Each events (LabelAt text events)
  labels-meet p k h = meets_at k h ((yes_iff text events).0 p k (event_at events k) (drop (k + 1) es) (events-next events k h))

  pub labels-break : (i : ℕ) → Nests (tags_of events) → undefined_of text events ≡ Some i → Earliest events (LabelAt text events) i
  labels-break i w p =
      let l = at-lowest text events i p in
      let q = placed i l.place in
      let n = inside-list i l.place in
      record {
        within = n;
        breaks = λ m. clash (rw (q.0, q.1) (holds_at_lem i n w m)) l.fails;
        before = λ k h. meets_at k (omega arith) (l.before k (event_at events k) (drop (k + 1) es) h (events-next events k (omega arith)));
      }
