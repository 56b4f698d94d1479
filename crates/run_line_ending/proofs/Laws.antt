-- Which line ending a slice is, and the walk to the first. Assumes nothing.
use Rattle.std.specs.Prelude.{if◌then◌else◌}
use mathlib.Core.Path.{◌≡◌, refl, sym, ap, ◌∙◌}
use mathlib.Core.Bool.{Bool, true, false, ◌&&◌, ◌||◌}
use mathlib.Core.List.{List, [], ◌∷◌}
use Prim.Native.Nat.{ℕ, suc, ◌+◌, ◌-◌, ◌/◌, ◌≤◌, ◌<◌}
use native.Mathlib.Omega.{arith}
use borrow.Author.Tests.{leb-true}
use lib.Dec.{eqb, leb}
use lib.ListN.{length, take, drop, get_or, length-take, length-drop}
use lib.Seq.{drop-cons}
use Rattle.lent.specs.Bytes.{bytes, same}
use Rattle.lent.proofs.Laws.{and_left, and_right}
use Rattle.lent.proofs.Same.{same-equal}
use Rattle.utf8.specs.Utf8.{is_utf8}
use Rattle.event.specs.declared.Event.{Event}
use Rattle.event.specs.Event.{is_enter, named, event_at, events_of}
use Rattle.event.proofs.Laws.{events-next, events-end}
use Rattle.machine.specs.declared.Ending.{Ending}
use Rattle.machine.specs.declared.Ending.TheVariants.{Lf, Cr, CrLf}
use Rattle.machine.specs.Outcome.{Outcome, stop, go, ◌>>=◌}
use Rattle.machine.specs.Turn.{is_exit, span_of, slice_of, as_str, str_of}
use Rattle.machine.specs.Run.{parse_ending, ending_of}
use Rattle.machine.proofs.Outcomes.{never}
use Rattle.run_line_ending.specs.Ending.{EndsLine, Parses, Finds}

-- ---- a slice

-- which of the three it is, by its first byte and its length
data Kind : List ℕ → Ending → Type 0 where
  lf : Kind (10 ∷ []) Lf
  cr : Kind (13 ∷ []) Cr
  crlf : Kind (13 ∷ 10 ∷ []) CrLf

-- as the definition says
parsed : (b : List ℕ) (x : Ending) → parse_ending b ≡ go x → Kind b x
parsed b x p = first (same b (bytes "\n")) refl p
  where
    third : (t : Bool) → same b (bytes "\r\n") ≡ t → (if t then go CrLf else stop) ≡ go x → Kind b x
    third true q r = let e : b ≡ 13 ∷ 10 ∷ [] = same-equal b (bytes "\r\n") q in let y : CrLf ≡ x = cc in rw (e, ← y) crlf
    third false q r = never r

    second : (t : Bool) → same b (bytes "\r") ≡ t → (if t then go Cr else (if same b (bytes "\r\n") then go CrLf else stop)) ≡ go x → Kind b x
    second true q r = let e : b ≡ 13 ∷ [] = same-equal b (bytes "\r") q in let y : Cr ≡ x = cc in rw (e, ← y) cr
    second false q r = third (same b (bytes "\r\n")) refl r

    first : (t : Bool) → same b (bytes "\n") ≡ t → (if t then go Lf else (if same b (bytes "\r") then go Cr else (if same b (bytes "\r\n") then go CrLf else stop))) ≡ go x → Kind b x
    first true q r = let e : b ≡ 10 ∷ [] = same-equal b (bytes "\n") q in let y : Lf ≡ x = cc in rw (e, ← y) lf
    first false q r = second (same b (bytes "\r")) refl r

-- of the text it is so long, and begins there
record Slice (text : List ℕ) (e : Event) (b : List ℕ) : Type 0 where
  pub ordered : e.from.0 ≤ e.to.0
  pub inside : e.to.0 ≤ length text
  pub long : length b ≡ e.to.0 - e.from.0
  pub head : e.from.0 < e.to.0 → get_or b 0 0 ≡ get_or text e.from.0 0

passed : {A : Type 0} (t : Bool) {a b : A} → (if t then go a else stop) ≡ go b → (t ≡ true) × (a ≡ b)
passed true p = (refl, cc)
passed false p = never p

slice_is : (text : List ℕ) (e : Event) (b : List ℕ) → str_of text (span_of e) ≡ go b → Slice text e b
unfolding str_of slice_of as_str
slice_is text e b p = on (leb from to && leb to (length text)) refl p
  where
    from : ℕ
    from = e.from.0

    to : ℕ
    to = e.to.0

    on : (t : Bool) → (leb from to && leb to (length text)) ≡ t → ((if t then go (take (to - from) (drop from text)) else stop) >>= as_str) ≡ go b → Slice text e b
    on false q r = never r
    on true q r =
        let l = leb-true from to (and_left (leb from to) (leb to (length text)) q) in
        let m = leb-true to (length text) (and_right (leb from to) (leb to (length text)) q) in
        let v = (passed (is_utf8 (take (to - from) (drop from text))) r).1 in
        let n : length (take (to - from) (drop from text)) ≡ to - from = simp (length-take, length-drop) (omega arith) in
        record { ordered = l; inside = m; long = ap length (sym v) ∙ n; head = λ h. (ap (λ (z : List ℕ). get_or z 0 0) (sym v) ∙ first_of h m) }
      where
        first_of : from < to → to ≤ length text → get_or (take (to - from) (drop from text)) 0 0 ≡ get_or text from 0
        first_of h m = let z : to - from ≡ suc (to - from - 1) = omega arith in rw (z, drop-cons text from 0 (omega arith))

chosen : (text : List ℕ) (e : Event) (r : Ending) → ((b : List ℕ) (x : Ending) → Slice text e b → Kind b x → r ≡ x) → Parses text e r
chosen text e r k = record { parses = λ x p. on (str_of text (span_of e)) x refl p }
  where
    on : (o : Outcome (List ℕ)) (x : Ending) → str_of text (span_of e) ≡ o → (o >>= parse_ending) ≡ go x → r ≡ x
    on stop x q p = never p
    on (go b) x q p = k b x (slice_is text e b q) (parsed b x p)

module _ {text : List ℕ} {e : Event} where
  kinds : {r : Ending} → (Slice text e (10 ∷ []) → r ≡ Lf) → (Slice text e (13 ∷ []) → r ≡ Cr) → (Slice text e (13 ∷ 10 ∷ []) → r ≡ CrLf) → Parses text e r
  kinds {r} f g h = chosen text e r on
    where
      on : (b : List ℕ) (x : Ending) → Slice text e b → Kind b x → r ≡ x
      on b x y lf = f y
      on b x y cr = g y
      on b x y crlf = h y

  none-there : length text ≤ e.from.0 → {r : Ending} → Parses text e r
  none-there l = kinds (λ y. no y) (λ y. no y) (λ y. no y)
    where
      no : {X : Type 0} {b : ℕ} {bs : List ℕ} → Slice text e (b ∷ bs) → X
      no y = let o = y.ordered in let i = y.inside in let n = y.long in absurd (omega arith)

  pub outside : length text ≤ e.from.0 → Parses text e Lf
  outside l = none-there l

  pub feed : e.from.0 < length text → get_or text e.from.0 0 ≡ 10 → Parses text e Lf
  feed l q = kinds (λ y. refl) (λ y. no y) (λ y. no y)
    where
      no : {X : Type 0} {bs : List ℕ} → Slice text e (13 ∷ bs) → X
      no y = let n = y.long in let h = y.head (omega arith) in absurd (omega arith)

  pub empty : e.to.0 ≤ e.from.0 → Parses text e Lf
  empty l = kinds (λ y. refl) (λ y. no y) (λ y. no y)
    where
      no : {X : Type 0} {bs : List ℕ} → Slice text e (13 ∷ bs) → X
      no y = let n = y.long in absurd (omega arith)

  pub return_alone : (get_or text e.from.0 0 ≡ 10 → ⊥) → e.from.0 < e.to.0 → e.to.0 - e.from.0 ≡ 1 → Parses text e Cr
  return_alone q l m = kinds (λ y. (let h = y.head l in absurd (q (sym h)))) (λ y. refl) (λ y. (let n = y.long in absurd (omega arith)))

  pub both : (get_or text e.from.0 0 ≡ 10 → ⊥) → e.from.0 < e.to.0 → (e.to.0 - e.from.0 ≡ 1 → ⊥) → Parses text e CrLf
  both q l m = kinds (λ y. (let h = y.head l in absurd (q (sym h)))) (λ y. (let n = y.long in absurd (m (sym n)))) (λ y. refl)

-- ---- the walk

-- what is left to walk decides
pub record Walks (default : Ending) (text events : List ℕ) (n i : ℕ) : Type 0 where
  pub all : n ≡ length events / 20
  pub left : ending_of default text (drop i (events_of events)) ≡ ending_of default text (events_of events)

-- the event at an index first
here : (default : Ending) (text events : List ℕ) (i : ℕ) → i < length events / 20
    → ending_of default text (drop i (events_of events)) ≡ elim (is_exit (event_at events i) && named (3 ∷ 4 ∷ []) (event_at events i)) [ true ↦ str_of text (span_of (event_at events i)) >>= parse_ending | false ↦ ending_of default text (drop (i + 1) (events_of events)) ]
unfolding ending_of
here default text events i h = rw (events-next events i h)

module _ {default : Ending} {text events : List ℕ} where
  pub walks : {n : ℕ} → n ≡ length events / 20 → Walks default text events n 0
  walks p = record { left = refl; all = p }

  module _ {n i : ℕ} (h : i < n) (w : Walks default text events n i) {e : Event} (at : e ≡ event_at events i) where
    there : i < length events / 20
    there = let p = w.all in omega arith

    pub walks-on : {x : Bool} → EndsLine e x → x ≡ false → Walks default text events n (i + 1)
    walks-on k p = record { left = (let q = rw at at k.is in sym (rw (sym q ∙ p) at (here default text events i there)) ∙ w.left); all = w.all }

    pub found : {x : Bool} {r : Ending} → EndsLine e x → x ≡ true → Parses text e r → Finds default text events r
    found k p q = record { finds = λ x z. (let a = rw at at k.is in let b = rw at at q in b.parses x (sym (rw (sym a ∙ p) at (here default text events i there)) ∙ w.left ∙ z)) }

  pub not_found : {n i : ℕ} → n ≤ i → Walks default text events n i → Finds default text events default
  unfolding ending_of
  not_found {n} {i} h w = record { finds = λ x e. (let p = w.all in let z : ending_of default text [] ≡ go x = (rw (events-end events i (omega arith)) at w.left) ∙ e in cc) }

-- ---- an event that ends a line

pub not-enter : {e : Event} {x : Bool} → x ≡ is_enter e → x ≡ true → EndsLine e false
not-enter p q = record { is = rw (← p, q) }

pub by_name : {e : Event} {x : Bool} → x ≡ is_enter e → x ≡ false → EndsLine e (eqb e.name 3 || eqb e.name 4)
by_name {e} p q = record { is = rw (← p, q) (ap (λ (z : Bool). eqb e.name 3 || z) (sym (or_no (eqb e.name 4)))) }
  where
    or_no : (z : Bool) → (z || false) ≡ z
    or_no true = refl
    or_no false = refl
