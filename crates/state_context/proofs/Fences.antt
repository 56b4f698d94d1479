-- The fences of a code block: set, counted, asked. Assumes nothing.
use mathlib.Core.Path.{◌≡◌, refl, sym, ◌∙◌}
use mathlib.Core.Bool.{Bool, true, false, ◌||◌}
use mathlib.Core.List.{List}
use mathlib.Core.Option.{Option, none, some}
use Prim.Native.Nat.{ℕ, zero, suc}
use native.Mathlib.Omega.{arith}
use lib.Dec.{eqb, ltb}
use borrow.Author.Tests.{ne_eqb, le-ltb}
use Rattle.machine.specs.State.{State}
use Rattle.machine.specs.Outcome.{stop, go, ◌>>=◌, need}
use Rattle.machine.specs.Set.{set_fences}
use Rattle.machine.specs.Test.{is_first_fence, is_fenced_once, is_fence_missing, has, test}
use Rattle.machine.specs.Command.{exec}
use Rattle.machine.specs.Words.{fences, count_fence}
use Rattle.machine.proofs.Outcomes.{never}
use Rattle.machine_bounded.specs.Within.{within}
use Rattle.machine_bounded.proofs.Bounds.{done}
use Rattle.packed.specs.Word.{digit_of}
use Rattle.state_context.specs.declared.Context.{Context}
use Rattle.state_context.specs.Private.{Digit}
use Rattle.state_context.specs.Rel.{Rel, Any, Sets, Tells, fences_digit}
use Rattle.state_context.proofs.Plain.{setting}
use Rattle.state_context.proofs.Digits.{other, rel-waits}

rel-fenced : {d : ℕ} {c : Context} {w o b : List ℕ} {s : State} (x : Option ℕ) {r : Context} → d ≡ fences_digit x → Digit 6 d c r → Rel c w o b s → Rel r w o b (set_fences x s)
rel-fenced x e k r =
    let p = k.placed in
    let v = r.waits in
    rw k.is (rel-waits (omega arith) (omega arith) p r (record { rank = v.rank; seen = other 5 refl p ∙ v.seen; fences = p.here ∙ e; marker = other 7 refl p ∙ v.marker; first = other 8 refl p ∙ v.first }))

pub fenced : {d : ℕ} {c r : Context} (x : Option ℕ) → d ≡ fences_digit x → Digit 6 d c r → Sets (fences x) c r
unfolding exec within
fenced x e k = setting (set_fences x) (λ t s. refl) (λ w o b s i r. rel-fenced x e k r)

-- one more: where there is none to count the machine stops
more-fences : {d : ℕ} {c r : Context} → ((n : ℕ) → digit_of 6 c.word ≡ fences_digit (some n) → d ≡ fences_digit (some (suc n))) → Digit 6 d c r → Sets count_fence c r
unfolding exec within
more-fences {c = c} {r = q} f k = record { sets = λ w o. record { keeps = λ t b s u v r p. on s.waiting.fences w o b s u r (done true (need s.waiting.fences >>= λ n. go (set_fences (some (suc n)) s)) u p).went refl } }
  where
    on : (x : Option ℕ) (w o b : List ℕ) (s u : State) → Rel c w o b s → (need s.waiting.fences >>= λ n. go (set_fences (some (suc n)) s)) ≡ go u → s.waiting.fences ≡ x → Rel q w o b u
    on none w o b s u r p z = let y : stop ≡ go u = rw z at p in never y
    on (some n) w o b s u r p z =
        let e : set_fences (some (suc n)) s ≡ u = (let y : go (set_fences (some (suc n)) s) ≡ go u = rw z at p in cc) in
        let h : digit_of 6 c.word ≡ fences_digit (some n) = rw z at r.waits.fences in
        rw (← e) (rel-fenced (some (suc n)) (f n h) k r)

module _ {c r : Context} {d : ℕ} (e : d ≡ digit_of 6 c.word) where
  pub first_more : d ≡ 1 → Digit 6 2 c r → Sets count_fence c r
  first_more z k = more-fences (λ n h. on n (sym z ∙ e ∙ h)) k
    where
      on : (n : ℕ) → 1 ≡ fences_digit (some n) → 2 ≡ fences_digit (some (suc n))
      on zero h = refl
      on (suc zero) h = absurd (omega arith)
      on (suc (suc n)) h = absurd (omega arith)

  pub second_more : d ≡ 2 → Digit 6 3 c r → Sets count_fence c r
  second_more z k = more-fences (λ n h. on n (sym z ∙ e ∙ h)) k
    where
      on : (n : ℕ) → 2 ≡ fences_digit (some n) → 3 ≡ fences_digit (some (suc n))
      on zero h = absurd (omega arith)
      on (suc zero) h = refl
      on (suc (suc n)) h = absurd (omega arith)

-- past two, and where there is none to count
pub third-more : {c : Context} {d : ℕ} → d ≡ digit_of 6 c.word → (d ≡ 1 → ⊥) → (d ≡ 2 → ⊥) → Sets count_fence c c
third-more {c} {d} e x y = more-fences (λ n h. on n (e ∙ h) h) (record { word = c.word; placed = record { here = refl; others = λ j z. refl }; is = refl })
  where
    on : (n : ℕ) → d ≡ fences_digit (some n) → digit_of 6 c.word ≡ fences_digit (some n) → digit_of 6 c.word ≡ fences_digit (some (suc n))
    on zero g h = absurd (x g)
    on (suc zero) g h = absurd (y g)
    on (suc (suc n)) g h = h

first_of : (f : Option ℕ) (y : Bool) {d : ℕ} → d ≡ fences_digit f → (need f >>= λ n. go (eqb n 0)) ≡ go y → y ≡ eqb d 1
first_of none y e p = never p
first_of (some zero) y e p = let i : true ≡ y = cc in sym i ∙ rw e
first_of (some (suc zero)) y e p = let i : false ≡ y = cc in sym i ∙ rw e
first_of (some (suc (suc n))) y e p = let i : eqb (suc (suc n)) 0 ≡ y = cc in sym i ∙ rw (e, ne_eqb (suc (suc n)) 0 (λ z. absurd (omega arith)))

once-of : (f : Option ℕ) (y : Bool) {d : ℕ} → d ≡ fences_digit f → go (has (eqb 1) f) ≡ go y → y ≡ eqb d 2
once-of none y e p = let i : false ≡ y = cc in sym i ∙ rw e
once-of (some zero) y e p = let i : false ≡ y = cc in sym i ∙ rw e
once-of (some (suc zero)) y e p = let i : true ≡ y = cc in sym i ∙ rw e
once-of (some (suc (suc n))) y e p = let i : eqb 1 (suc (suc n)) ≡ y = cc in sym i ∙ rw (e, ne_eqb 1 (suc (suc n)) (λ z. absurd (omega arith)))

missing-of : (f : Option ℕ) (y : Bool) {d : ℕ} → d ≡ fences_digit f → go (has (λ n. ltb n 2) f) ≡ go y → y ≡ eqb d 1 || eqb d 2
missing-of none y e p = let i : false ≡ y = cc in sym i ∙ rw e
missing-of (some zero) y e p = let i : true ≡ y = cc in sym i ∙ rw e
missing-of (some (suc zero)) y e p = let i : true ≡ y = cc in sym i ∙ rw e
missing-of (some (suc (suc n))) y e p = let i : ltb (suc (suc n)) 2 ≡ y = cc in sym i ∙ rw (e, le-ltb (suc (suc n)) 2 (omega arith))

module _ {c : Context} {d : ℕ} where
  pub tells_first : d ≡ digit_of 6 c.word → Tells Any is_first_fence c (eqb d 1)
  unfolding test
  tells_first e = record { tells = λ t w o b s y v r p. first_of s.waiting.fences y (e ∙ r.waits.fences) p }

  pub tells-once : d ≡ digit_of 6 c.word → Tells Any is_fenced_once c (eqb d 2)
  unfolding test
  tells-once e = record { tells = λ t w o b s y v r p. once-of s.waiting.fences y (e ∙ r.waits.fences) p }

  pub tells-missing : d ≡ digit_of 6 c.word → Tells Any is_fence_missing c (eqb d 1 || eqb d 2)
  unfolding test
  tells-missing e = record { tells = λ t w o b s y v r p. missing-of s.waiting.fences y (e ∙ r.waits.fences) p }
