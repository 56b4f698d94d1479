-- What the rules and the nesting give a turn, whatever the state. Assumes nothing.
use Rattle.std.specs.Prelude.{if◌then◌else◌}
use mathlib.Core.Path.{◌≡◌, refl, ap, ◌∙◌}
use mathlib.Core.Bool.{Bool, true, false, ◌&&◌}
use mathlib.Core.List.{List, [], ◌∷◌}
use mathlib.Core.Option.{Option, none, some}
use Prim.Native.Nat.{ℕ, zero, suc, ◌-◌}
use native.Mathlib.Omega.{arith}
use lib.Dec.{T, leb}
use borrow.Author.Tests.{leb-true, lt-ltb, ne_eqb}
use lib.ListN.{length, take, drop, get_elem?}
use Rattle.lent.specs.Bytes.{between, all, is_digit}
use Rattle.event.specs.declared.Event.{Event}
use Rattle.event.specs.Event.{is_enter, event_at, events_of}
use Rattle.character_reference.specs.declared.Marker.{Marker}
use Rattle.character_reference.specs.declared.Names.{Names}
use Rattle.character_reference.specs.Reference.{digit_value, is_digit_of, are_digits, from_digits, reference_of, reference_for, is_some}
use Rattle.character_reference.proofs.Options.{by_both}
use Rattle.check_slices.specs.Slices.{is_item_value, is_underline}
use Rattle.check_rules.specs.Elements.{Forest, nil, element, Paired}
use Rattle.check_rules.specs.Rules.{Meets, Exits, Marks}
use Rattle.machine.specs.declared.Options.{Options}
use Rattle.machine.specs.Outcome.{Outcome, go, ◌>>=◌}
use Rattle.machine.specs.Turn.{is_exit, span_of, own_str, just_before, ends_at, skipping, look_back}
use Rattle.machine.specs.Text.{start_text, start_of}
use Rattle.machine_shape.specs.Pass.{behind, turn_at}
use Rattle.machine_shape.proofs.Says.{both, passed}
use Rattle.machine_never.specs.Values.{text_of}
use Rattle.machine_never.specs.Needs as needs
use Rattle.machine_never.specs.Needs.{Fact}
use Rattle.machine_never.specs.Here.{Here}
use Rattle.machine_never.proofs.Here.{is_at, slices-there, own-slice, own-str}

-- ---- slices

is_true : (x : Bool) → x ≡ true → T x
is_true true e = tt
is_true false e = let z : ◌≡◌ {A = ℕ} 0 1 = cc in absurd (omega arith)

digit : (b : ℕ) → T (is_digit b) → T (is_digit_of 10 b)
unfolding digit_value
digit b t =
    let p = both (leb 48 b) (leb b 57) t in
    let l = leb-true b 57 (passed (leb b 57) p.1) in
    let m = leb-true 48 b (passed (leb 48 b) p.0) in
    let e : between 48 57 b ≡ true = passed (between 48 57 b) t in
    let d : (if between 48 57 b then b - 48 else (if between 65 70 b then b - 55 else (if between 97 102 b then b - 87 else 16))) ≡ b - 48 = rw e refl in
    is_true (is_digit_of 10 b) (lt-ltb (digit_value b) 10 (omega (arith, d)))

digits : (s : List ℕ) → T (all is_digit s) → T (all (is_digit_of 10) s)
digits [] t = tt
digits (b ∷ s) t = let p = both (is_digit b) (all is_digit s) t in join (is_digit_of 10 b) (all (is_digit_of 10) s) (digit b p.0) (digits s p.1)
  where
    join : (x y : Bool) → T x → T y → T (x && y)
    join true y i j = j
    join false y i j = absurd i

value-starts : (s : List ℕ) → is_item_value s ≡ true → start_of s ≡ go (start_text (from_digits 10 s))
unfolding is_item_value start_of
value-starts s h =
    let p = both (between 1 9 (length s)) (all is_digit s) (is_true (between 1 9 (length s) && all is_digit s) h) in
    let q : are_digits 10 9 s ≡ true = rw (passed (between 1 9 (length s)) p.0) (passed (all (is_digit_of 10) s) (digits s p.1)) in
    rw q refl

first_byte : (n k : ℕ) (text : List ℕ) → is_underline (take n (drop k text)) ≡ true → (b : ℕ) × (get_elem? text k ≡ some b)
unfolding is_underline
first_byte n k [] h = at n k h
  where
    at : (n k : ℕ) → is_underline (take n (drop k [])) ≡ true → (b : ℕ) × (get_elem? {A = ℕ} [] k ≡ some b)
    at zero zero h = absurd (is_true false h)
    at zero (suc k) h = absurd (is_true false h)
    at (suc n) zero h = absurd (is_true false h)
    at (suc n) (suc k) h = absurd (is_true false h)
first_byte n zero (b ∷ text) h = (b, refl)
first_byte n (suc k) (b ∷ text) h = first_byte n k text h

some-there : (o : Option (List ℕ)) → is_some o ≡ true → (a : List ℕ) × (o ≡ some a)
some-there none h = absurd (is_true false h)
some-there (some a) h = (a, refl)

module _ (text events : List ℕ) (meets : Meets text events) (o : Options) (p : ℕ) (before : List Event) (e : Event) (es : List Event) (h : Here (events_of events) p before (e ∷ es)) (x : is_enter e ≡ false) where
  exits : (n : ℕ) → e.name ≡ n → Exits n (event_at events p)
  exits n i = rw (is_at text events meets p before e es h) (x, i)

  pub fact-slices : Fact needs.slices (turn_at text o p before e es)
  fact-slices = ((text_of text (span_of e), own-str text events meets p before e es h x), (text_of text (span_of e), own-slice text events meets p before e es h x))

  pub fact-starts : e.name ≡ 26 → Fact needs.starts (turn_at text o p before e es)
  fact-starts i =
      let s : is_item_value (text_of text (span_of e)) ≡ true = rw (is_at text events meets p before e es h) at ((slices-there text events meets p before e es h).value (exits 26 i)) in
      (start_text (from_digits 10 (text_of text (span_of e))), ap (λ (q : Outcome (List ℕ)). q >>= start_of) (own-str text events meets p before e es h x) ∙ value-starts (text_of text (span_of e)) s)

  pub fact-begins : e.name ≡ 18 → Fact needs.begins (turn_at text o p before e es)
  fact-begins i =
      let s : is_underline (text_of text (span_of e)) ≡ true = rw (is_at text events meets p before e es h) at ((slices-there text events meets p before e es h).underline (exits 18 i)) in
      first_byte (e.to.0 - e.from.0) e.from.0 text s

  pub fact-refers : (names : Names) → e.name ≡ 11 → (m : Marker) → Marks events p m → (b : List ℕ) × (own_str (turn_at text o p before e es) ≡ go b) × (c : List ℕ) × (reference_for names m b ≡ some c)
  fact-refers names i m k =
      let s : is_some (reference_of m (text_of text (span_of e))) ≡ true = rw (is_at text events meets p before e es h) at ((slices-there text events meets p before e es h).reference (exits 11 i) m k) in
      let r = some-there (reference_for names m (text_of text (span_of e))) (by_both names m (text_of text (span_of e)) ∙ s) in
      (text_of text (span_of e), own-str text events meets p before e es h x, r.0, r.1)

-- ---- the events before

pub behind-some : (f : Forest) (a : Event) (before : List Event) → (e : Event) × (just_before (behind f (a ∷ before)) ≡ some e)
behind-some nil a before = (a, refl)
behind-some (element b f z g) a before = behind-some g z (behind f (b ∷ a ∷ before))

abbrev Sees : ℕ → List Event → Type 0
Sees d before = (e : Event) × (look_back d before ≡ some e)

-- it ends at an exit, or goes into the element; at an enter it goes out of one
exit-seen : (d : ℕ) (z : Event) (before : List Event) → is_enter z ≡ false → Sees (suc d) before → Sees d (z ∷ before)
unfolding look_back
exit-seen d z before x k = at (ends_at d z)
  where
    at : (b : Bool) → (e : Event) × ((elim b [ true ↦ some z | false ↦ look_back (skipping (is_exit z) d) before ]) ≡ some e)
    at true = (z, refl)
    at false = rw x k

enter-seen : (d : ℕ) (a : Event) (before : List Event) → is_enter a ≡ true → Sees d before → Sees (suc d) (a ∷ before)
unfolding look_back
enter-seen d a before x k = at (ends_at (suc d) a) (rw (ne_eqb (suc d) 0 (λ e. absurd (omega arith))) refl)
  where
    at : (b : Bool) → b ≡ false → (e : Event) × ((elim b [ true ↦ some a | false ↦ look_back (skipping (is_exit a) (suc d)) before ]) ≡ some e)
    at true q = (a, refl)
    at false q = rw x k

-- it goes through whole elements: it ends in them, or goes on behind them
looks-past : (f : Forest) (d : ℕ) (before : List Event) → Paired f → Sees d before → Sees d (behind f before)
looks-past nil d before r k = k
looks-past (element a f z g) d before (r, i, j) k = looks-past g d (z ∷ behind f (a ∷ before)) j (exit-seen d z (behind f (a ∷ before)) r.1 (looks-past f (suc d) (a ∷ before) i (enter-seen d a before r.0 k)))

-- so at the exit of an element it ends at its enter at the latest
pub looks-back : (f : Forest) (a : Event) (before : List Event) → Paired f → is_enter a ≡ true → Sees 0 (behind f (a ∷ before))
unfolding look_back
looks-back f a before r x = looks-past f 0 (a ∷ before) r (at (ends_at 0 a) (rw x refl))
  where
    at : (b : Bool) → b ≡ true → (e : Event) × ((elim b [ true ↦ some a | false ↦ look_back (skipping (is_exit a) 0) before ]) ≡ some e)
    at true q = (a, refl)
    at false q = absurd (is_true false q)
