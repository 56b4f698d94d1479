-- The walk's step and its end, and what the answers say of a turn. Assumes nothing.
use mathlib.Core.Path.{◌≡◌, refl, sym, ap, ◌∙◌}
use mathlib.Core.Bool.{Bool, true, false, not, ◌&&◌, ◌||◌, or-false}
use mathlib.Core.List.{List, [], ◌∷◌, ◌++◌, reverse, reverse-append}
use mathlib.Core.Option.{some}
use Prim.Native.Nat.{ℕ, zero, suc, ◌+◌, ◌-◌, ◌/◌, ◌≤◌, ◌<◌}
use native.Mathlib.Numerals.{add-one}
use native.Mathlib.Omega.{arith}
use lib.Dec.{eqb}
use lib.ListN.{length, take}
use lib.Seq.{take-suc}
use Rattle.lent.specs.Bytes.{one_of}
use Rattle.event.specs.declared.Event.{Event}
use Rattle.event.specs.Event.{is_enter, named, event_at, events_of}
use Rattle.event.proofs.Laws.{length-events, event-at}
use Rattle.machine.specs.Turn.{is_exit, ends_at, skipping, look_back, just_before, is_after_definition}
use Rattle.dispatch_look_back.specs.Behind.{events_before, name_of, is_after_fence}

-- ---- the events before

-- they are the first i of all, newest first
pub before-reversed : (b : List ℕ) (i : ℕ) → i ≤ length b / 20 → events_before b i ≡ reverse (take i (events_of b))
before-reversed b zero h = refl
before-reversed b (suc i) h =
    let e = event_at b i in
    let l : i < length (events_of b) = rw length-events (omega arith) in
    let p : take (suc i) (events_of b) ≡ take i (events_of b) ++ (e ∷ []) = take-suc (events_of b) i e l ∙ rw (event-at b i e (omega arith)) in
    rw (p, reverse-append, before-reversed b i (omega arith))

-- one more with each event that a run passes
pub before-next : (b : List ℕ) (i : ℕ) → events_before b (i + 1) ≡ event_at b i ∷ events_before b i
before-next b i = rw add-one

one-before : (b : List ℕ) (k : ℕ) → 0 < k → events_before b k ≡ event_at b (k - 1) ∷ events_before b (k - 1)
one-before b zero h = absurd (omega arith)
one-before b (suc k) h = let e : suc k - 1 ≡ k = omega arith in rw e

-- ---- the tests

pub definition : (n : ℕ) → (eqb n 53 || eqb n 63) ≡ one_of (53 ∷ 63 ∷ []) n
definition n = rw or-false

pub skipped : (n : ℕ) {x : Bool} → x ≡ one_of (53 ∷ 63 ∷ []) n → (eqb n 1 || (eqb n 2 || (eqb n 3 || (eqb n 4 || x)))) ≡ one_of (1 ∷ 2 ∷ 3 ∷ 4 ∷ 53 ∷ 63 ∷ []) n
skipped n p = rw p

pub ending : (d : ℕ) (e : Event) {x y : Bool} → x ≡ is_enter e → y ≡ one_of (1 ∷ 2 ∷ 3 ∷ 4 ∷ 53 ∷ 63 ∷ []) e.name → (eqb d 0 && not (not x && y)) ≡ ends_at d e
ending d e p q = rw (p, q)

pub deeper : {x : Bool} (d : ℕ) → x ≡ true → d + 1 ≡ skipping x d
deeper d p = rw p (add-one d)

pub outside : {x : Bool} {d : ℕ} → x ≡ false → d ≡ 0 → 0 ≡ skipping x d
outside p q = rw (p, q)

pub shallower : {x : Bool} (d : ℕ) → x ≡ false → (d ≡ 0 → ⊥) → d - 1 ≡ skipping x d
shallower zero p h = absurd (h refl)
shallower (suc d) p h = rw p (let e : suc d - 1 ≡ d = omega arith in e)

-- ---- the walk

module _ (d : ℕ) (e : Event) (es : List Event) where
  ends-here : ends_at d e ≡ true → look_back d (e ∷ es) ≡ some e
  unfolding look_back
  ends-here p = rw (p, look_back)

  goes_on : ends_at d e ≡ false → look_back d (e ∷ es) ≡ look_back (skipping (is_exit e) d) es
  unfolding look_back
  goes_on p = rw (p, look_back)

-- what is found from here, before k and in d elements, is what is found at all
pub record Walks (b : List ℕ) (i k d : ℕ) : Type 0 where
  pub from-here : look_back d (events_before b k) ≡ look_back 0 (events_before b i)
  pub room : d + k ≤ i

pub walks : (b : List ℕ) (i : ℕ) → Walks b i i 0
walks b i = record { from-here = refl; room = omega arith }

skip-most : (x : Bool) (d : ℕ) → skipping x d ≤ suc d
skip-most true d = omega arith
skip-most false zero = omega arith
skip-most false (suc d) = omega arith

module _ {b : List ℕ} {i k d : ℕ} (w : Walks b i k d) where
  module _ (h : 0 < k) {e : Event} (p : e ≡ event_at b (k - 1)) {x : Bool} (q : x ≡ ends_at d e) where
    newest : events_before b k ≡ e ∷ events_before b (k - 1)
    newest = one-before b k h ∙ ap (λ (y : Event). y ∷ events_before b (k - 1)) (sym p)

    pub found : x ≡ true → e.name ≡ name_of (look_back 0 (events_before b i))
    found y =
        let z : look_back d (events_before b k) ≡ some e = rw newest (ends-here d e (events_before b (k - 1)) (sym q ∙ y)) in
        ap name_of (sym z ∙ w.from-here)

    pub further : x ≡ false → {y : Bool} → y ≡ is_enter e → {n : ℕ} → n ≡ skipping (not y) d → Walks b i (k - 1) n
    further u {y} j {n} r =
        let s : n ≡ skipping (is_exit e) d = r ∙ rw j in
        let z : look_back d (events_before b k) ≡ look_back (skipping (is_exit e) d) (events_before b (k - 1)) = rw newest (goes_on d e (events_before b (k - 1)) (sym q ∙ u)) in
        record { from-here = rw s (sym z ∙ w.from-here); room = omega (arith, w.room, skip-most (not y) d) }

  pub nothing-found : k ≤ 0 → 0 ≡ name_of (look_back 0 (events_before b i))
  unfolding look_back
  nothing-found h = let z : k ≡ 0 = omega arith in let y : look_back d (events_before b 0) ≡ look_back 0 (events_before b i) = rw z at w.from-here in ap name_of y

-- ---- one event before

pub fence : (b : List ℕ) (i : ℕ) → (i ≡ 0 → ⊥) → {n : ℕ} → n ≡ (event_at b (i - 1)).name → eqb n 29 ≡ is_after_fence (events_before b i)
fence b zero h p = absurd (h refl)
fence b (suc i) h {n} p = let e : suc i - 1 ≡ i = omega arith in let q : n ≡ (event_at b i).name = rw e at p in rw (q, or-false)

pub too-early : (b : List ℕ) (i : ℕ) → i < 2 → false ≡ is_after_definition (events_before b i)
too-early b zero h = refl
too-early b (suc zero) h = refl
too-early b (suc (suc i)) h = absurd (omega arith)

pub after-definition : (b : List ℕ) (i : ℕ) → 2 ≤ i → {n : ℕ} → n ≡ (event_at b (i - 2)).name → {x : Bool} → x ≡ one_of (53 ∷ 63 ∷ []) n → x ≡ is_after_definition (events_before b i)
after-definition b zero h p q = absurd (omega arith)
after-definition b (suc zero) h p q = absurd (omega arith)
after-definition b (suc (suc i)) h {n} p q = let e : suc (suc i) - 2 ≡ i = omega arith in let r : n ≡ (event_at b i).name = rw e at p in q ∙ rw r

newest-is : (es : List Event) (e : Event) → just_before es ≡ some e → named (29 ∷ []) e ≡ is_after_fence es
newest-is [] e p = let z : ◌≡◌ {A = ℕ} 0 1 = cc in absurd (omega arith)
newest-is (d ∷ es) e p = let q : d ≡ e = cc in rw q

-- ---- what the answers say of a turn whose events before are es

module _ (b : List ℕ) (i : ℕ) (es : List Event) (p : es ≡ events_before b i) where
  pub name-is : {x : ℕ} → x ≡ name_of (look_back 0 (events_before b i)) → (e : Event) → look_back 0 es ≡ some e → e.name ≡ x
  name-is q e r = let z : look_back 0 (events_before b i) ≡ some e = rw (← p) r in sym (q ∙ ap name_of z)

  pub fence-is : {x : Bool} → x ≡ is_after_fence (events_before b i) → (e : Event) → just_before es ≡ some e → named (29 ∷ []) e ≡ x
  fence-is q e r = newest-is es e r ∙ ap is_after_fence p ∙ sym q

  pub definition-is : {x : Bool} → x ≡ is_after_definition (events_before b i) → is_after_definition es ≡ x
  definition-is q = ap is_after_definition p ∙ sym q
