-- The laws of the passes for 5 and 6. Assumes nothing.
use Rattle.std.proofs.Common.{if◌then◌else◌, ◌≡◌, sym, ◌∙◌, Bool, true, false, not, List, ◌∷◌, ℕ, ◌+◌, ◌/◌, ◌<◌, ◌≤◌, arith, ne_eqb, ltb-true, eqb, ltb, length, drop, Option, Some, None}
use borrow.Author.Tests.{not-true, not-false}
use Rattle.event.specs.declared.Event.{Event}
use Rattle.event.specs.Event.{is_enter, event_at, events_of}
use Rattle.event.proofs.Laws.{events-next, events-end}
use Rattle.character_reference.specs.declared.Marker.TheVariants.{Named, Decimal, Hexadecimal}
use Rattle.check_slices.specs.declared.Seen.{Seen}
use Rattle.check_slices.specs.declared.Counts.{Counts}
use Rattle.check_slices.specs.First.{first_from}
use Rattle.check_slices.specs.Slices.{nothing_seen, with_sequence, with_marker, seen_behind, slice_holds, part, event_holds, slices_of}
use Rattle.check_slices.specs.Counts.{none_counted, Few, counted_behind, count_holds, counts_of}
use Rattle.check_slices.proofs.First.{holds_at, First, yes-all, all_yes, at_first, first-at}

-- ---- a pass, from the event i on

module _ {S : Type 0} (holds : S → Event → Bool) (behind : S → Event → S) (b : List ℕ) (i n : ℕ) (s : S) (w : Option ℕ) (left : first_from holds behind i s (drop i (events_of b)) ≡ w) (l : n ≡ length b / 20) where
  module _ (h : i < n) (e : Event) (p : e ≡ event_at b i) (x : Bool) (q : x ≡ holds s e) where
    at-event : first_from holds behind i s (e ∷ drop (i + 1) (events_of b)) ≡ w
    at-event = let k : i < length b / 20 = omega arith in rw (events-next b i k, ← p) at left

    pub stops : not x ≡ true → Some i ≡ w
    unfolding first_from
    stops t = rw (← q, not-true x t) at at-event

    pub goes_on : not x ≡ false → (u : S) → u ≡ behind s e → first_from holds behind (i + 1) u (drop (i + 1) (events_of b)) ≡ w
    unfolding first_from
    goes_on t u r = rw (← q, not-false x t, ← r) at at-event

  pub ends : n ≤ i → None ≡ w
  unfolding first_from
  ends h = let k : length b / 20 ≤ i = omega arith in rw (events-end b i k) at left

-- ---- the code's cases of an event

module _ (e : Event) (x : Bool) (p : x ≡ is_enter e) where
  pub enter-holds : (text : List ℕ) (seen : Seen) → x ≡ true → true ≡ event_holds text seen e
  unfolding event_holds
  enter-holds text seen h = rw (← p, h)

  pub exit-holds : (text : List ℕ) (seen : Seen) (r : Bool) (s : List ℕ) → x ≡ false → s ≡ part text e.from.0 e.to.0 → r ≡ slice_holds seen e.name s → r ≡ event_holds text seen e
  unfolding event_holds
  exit-holds text seen r s h q t = rw (← p, h, ← q) t

  module _ (seen : Seen) where
    pub behind-heading : x ≡ true → e.name ≡ 13 → with_sequence false seen ≡ seen_behind seen e
    unfolding seen_behind
    behind-heading h k = rw (← p, h, k)

    pub behind-enter : x ≡ true → (e.name ≡ 13 → ⊥) → seen ≡ seen_behind seen e
    unfolding seen_behind
    behind-enter h k = rw (← p, h, ne_eqb e.name 13 k)

    pub behind-sequence : x ≡ false → e.name ≡ 14 → with_sequence true seen ≡ seen_behind seen e
    unfolding seen_behind
    behind-sequence h k = rw (← p, h, k)

    pub behind-marker : x ≡ false → e.name ≡ 8 → with_marker Named seen ≡ seen_behind seen e
    unfolding seen_behind
    behind-marker h k = rw (← p, h, k)

    pub behind-numeric : x ≡ false → e.name ≡ 9 → with_marker Decimal seen ≡ seen_behind seen e
    unfolding seen_behind
    behind-numeric h k = rw (← p, h, k)

    pub behind-hexadecimal : x ≡ false → e.name ≡ 10 → with_marker Hexadecimal seen ≡ seen_behind seen e
    unfolding seen_behind
    behind-hexadecimal h k = rw (← p, h, k)

    pub behind-exit : x ≡ false → (e.name ≡ 14 → ⊥) → (e.name ≡ 8 → ⊥) → (e.name ≡ 9 → ⊥) → (e.name ≡ 10 → ⊥) → seen ≡ seen_behind seen e
    unfolding seen_behind
    behind-exit h a b c d = rw (← p, h, ne_eqb e.name 14 a, ne_eqb e.name 8 b, ne_eqb e.name 9 c, ne_eqb e.name 10 d)

  module _ (n : Counts) where
    pub room-for-definition : x ≡ true → e.name ≡ 53 → ltb n.definitions 128 ≡ count_holds n e
    unfolding count_holds
    room-for-definition h k = rw (← p, h, k)

    pub room-for-footnote : x ≡ true → e.name ≡ 63 → ltb n.footnotes 64 ≡ count_holds n e
    unfolding count_holds
    room-for-footnote h k = rw (← p, h, k)

    pub others-hold : x ≡ true → (e.name ≡ 53 → ⊥) → (e.name ≡ 63 → ⊥) → true ≡ count_holds n e
    unfolding count_holds
    others-hold h a b = rw (← p, h, ne_eqb e.name 53 a, ne_eqb e.name 63 b)

    pub exits-hold : x ≡ false → true ≡ count_holds n e
    unfolding count_holds
    exits-hold h = rw (← p, h)

    pub one-definition : x ≡ true → e.name ≡ 53 → ◌≡◌ {A = Counts} (record { definitions = n.definitions + 1; footnotes = n.footnotes }) (counted_behind n e)
    unfolding counted_behind
    one-definition h k = rw (← p, h, k)

    pub one-footnote : x ≡ true → e.name ≡ 63 → ◌≡◌ {A = Counts} (record { definitions = n.definitions; footnotes = n.footnotes + 1 }) (counted_behind n e)
    unfolding counted_behind
    one-footnote h k = rw (← p, h, k)

    pub others-uncounted : x ≡ true → (e.name ≡ 53 → ⊥) → (e.name ≡ 63 → ⊥) → n ≡ counted_behind n e
    unfolding counted_behind
    others-uncounted h a b = rw (← p, h, ne_eqb e.name 53 a, ne_eqb e.name 63 b)

    pub exits-uncounted : x ≡ false → n ≡ counted_behind n e
    unfolding counted_behind
    exits-uncounted h = rw (← p, h)

-- ---- where the counts hold, they stay few

few-by : (t d f : Bool) (n : Counts) → Few n
    → (if t then (if d then ltb n.definitions 128 else (if f then ltb n.footnotes 64 else true)) else true) ≡ true
    → Few (if t then (if d then record { definitions = n.definitions + 1; footnotes = n.footnotes } else (if f then record { definitions = n.definitions; footnotes = n.footnotes + 1 } else n)) else n)
few-by false d f n few p = few
few-by true true f n few p = record { definitions = omega (arith, ltb-true n.definitions 128 p); footnotes = few.footnotes }
few-by true false true n few p = record { definitions = few.definitions; footnotes = omega (arith, ltb-true n.footnotes 64 p) }
few-by true false false n few p = few

pub stays-few : (n m : Counts) (e : Event) (x : Bool) → Few n → x ≡ count_holds n e → x ≡ true → m ≡ counted_behind n e → Few m
unfolding count_holds counted_behind
stays-few n m e x few p h q = rw q (few-by (is_enter e) (eqb e.name 53) (eqb e.name 63) n few (sym p ∙ h))

-- ---- what the two answers say: yes exactly where every event holds in its state, a place exactly where it is the first that does not

module _ (text events : List ℕ) where
  pub slices-yes : slices_of text events ≡ None → (k : ℕ) → holds_at (event_holds text) seen_behind nothing_seen (events_of events) k ≡ true
  unfolding slices_of
  slices-yes p k = yes-all (event_holds text) seen_behind 0 nothing_seen (events_of events) p k

  pub yes-slices : ((k : ℕ) → holds_at (event_holds text) seen_behind nothing_seen (events_of events) k ≡ true) → slices_of text events ≡ None
  unfolding slices_of
  yes-slices p = all_yes (event_holds text) seen_behind 0 nothing_seen (events_of events) p

  pub slices-at : (i : ℕ) → slices_of text events ≡ Some i → First (event_holds text) seen_behind 0 nothing_seen (events_of events) i
  unfolding slices_of
  slices-at i p = at_first (event_holds text) seen_behind 0 nothing_seen (events_of events) i p

  pub at-slices : (i : ℕ) → First (event_holds text) seen_behind 0 nothing_seen (events_of events) i → slices_of text events ≡ Some i
  unfolding slices_of
  at-slices i p = first-at (event_holds text) seen_behind 0 nothing_seen (events_of events) i p

module _ (events : List ℕ) where
  pub counts-yes : counts_of events ≡ None → (k : ℕ) → holds_at count_holds counted_behind none_counted (events_of events) k ≡ true
  unfolding counts_of
  counts-yes p k = yes-all count_holds counted_behind 0 none_counted (events_of events) p k

  pub yes-counts : ((k : ℕ) → holds_at count_holds counted_behind none_counted (events_of events) k ≡ true) → counts_of events ≡ None
  unfolding counts_of
  yes-counts p = all_yes count_holds counted_behind 0 none_counted (events_of events) p

  pub counts-at : (i : ℕ) → counts_of events ≡ Some i → First count_holds counted_behind 0 none_counted (events_of events) i
  unfolding counts_of
  counts-at i p = at_first count_holds counted_behind 0 none_counted (events_of events) i p

  pub at-counts : (i : ℕ) → First count_holds counted_behind 0 none_counted (events_of events) i → counts_of events ≡ Some i
  unfolding counts_of
  at-counts i p = first-at count_holds counted_behind 0 none_counted (events_of events) i p
