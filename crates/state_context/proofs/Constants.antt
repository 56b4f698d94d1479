-- What a build never changes: put into the word once, and read. Assumes nothing.
use Rattle.std.proofs.Common.{◌≡◌, refl, sym, ap, ◌∙◌, ℕ, zero, suc, arith, Bool, not, List, eqb}
use Rattle.std.proofs.Math.Dec.{eqb-suc-zero}
use Rattle.encode_byte.specs.declared.Escaping.{Escaping}
use Rattle.encode_byte.specs.Byte.{escaping_of}
use Rattle.character_reference.specs.declared.Names.{Names}
use Rattle.character_reference.specs.declared.Names.TheVariants.{Html4, Html5}
use Rattle.machine.specs.declared.Ending.{Ending}
use Rattle.machine.specs.declared.Ending.TheVariants.{Lf, Cr, CrLf}
use Rattle.machine.specs.declared.Flags.{Flags}
use Rattle.machine.specs.declared.Fixed.{Fixed}
use Rattle.machine.specs.State.{State}
use Rattle.machine.specs.Buffers.{escaping_now}
use Rattle.packed.specs.Word.{digit_of, Placed}
use Rattle.state_context.specs.declared.Context.{Context}
use Rattle.state_context.specs.Rel.{Rel, ending_at, names_at, apostrophes_at, ending_in, names_in, apostrophes_in, fixed_in, escaping_in}
use Rattle.state_context.specs.Private.{Starts}

-- ---- put in

pub starts : (fixed : Fixed) {e n a w v r : ℕ} → ending_at e ≡ fixed.ending → names_at n ≡ fixed.names → apostrophes_at a ≡ fixed.apostrophes
    → Placed 9 e 4 w → Placed 10 n w v → Placed 11 a v r → Starts fixed r
starts fixed x y z p q t =
    record {
      begins = λ j h. t.others j (λ i. omega arith) ∙ q.others j (λ i. omega arith) ∙ p.others j (λ i. omega arith);
      holds = rw (t.others 9 (λ i. omega arith), q.others 9 (λ i. omega arith), p.here, t.others 10 (λ i. omega arith), q.here, t.here, x, y, z);
    }

-- ---- read

module _ (w : ℕ) {d : ℕ} (e : d ≡ digit_of 9 w) where
  pub is-lf : d ≡ 0 → Lf ≡ ending_in w
  is-lf z = rw (← e, z)

  pub is-cr : d ≡ 1 → Cr ≡ ending_in w
  is-cr z = rw (← e, z)

  pub is-crlf : (d ≡ 0 → ⊥) → (d ≡ 1 → ⊥) → CrLf ≡ ending_in w
  is-crlf y z = on d y z ∙ ap ending_at e
    where
      on : (n : ℕ) → (n ≡ 0 → ⊥) → (n ≡ 1 → ⊥) → CrLf ≡ ending_at n
      on zero y z = absurd (y refl)
      on (suc zero) y z = absurd (z refl)
      on (suc (suc n)) y z = refl

module _ (w : ℕ) {d : ℕ} (e : d ≡ digit_of 10 w) where
  pub is-html4 : d ≡ 0 → Html4 ≡ names_in w
  is-html4 z = rw (← e, z)

  pub is-html5 : (d ≡ 0 → ⊥) → Html5 ≡ names_in w
  is-html5 z = on d z ∙ ap names_at e
    where
      on : (n : ℕ) → (n ≡ 0 → ⊥) → Html5 ≡ names_at n
      on zero z = absurd (z refl)
      on (suc n) z = refl

module _ (w : ℕ) {d : ℕ} (e : d ≡ digit_of 11 w) where
  pub is_quoted : not (eqb d 0) ≡ apostrophes_in w
  is_quoted = on d ∙ ap apostrophes_at e
    where
      on : (n : ℕ) → not (eqb n 0) ≡ apostrophes_at n
      on zero = refl
      on (suc n) = rw (eqb-suc-zero n)

pub all_read : (w : ℕ) {e : Ending} {n : Names} {a : Bool} → e ≡ ending_in w → n ≡ names_in w → a ≡ apostrophes_in w → ◌≡◌ {A = Fixed} (record { ending = e; names = n; apostrophes = a }) (fixed_in w)
all_read w x y z = rw (x, y, z)

-- ---- escaping

pub escaping-read : (w : ℕ) {d : ℕ} {a : Bool} {r : Escaping} → d ≡ digit_of 1 w → a ≡ apostrophes_in w → r ≡ escaping_of (not (eqb d 0)) a → r ≡ escaping_in w
escaping-read w p q h = h ∙ rw (p, q)

-- both are the machine's
pub apostrophes-told : {c : Context} {w o b : List ℕ} {s : State} {x : Bool} → x ≡ apostrophes_in c.word → Rel c w o b s → x ≡ s.fixed.apostrophes
apostrophes-told p r = p ∙ ap (λ (f : Fixed). f.apostrophes) r.fixed

pub escaping-told : {c : Context} {w o b : List ℕ} {s : State} {x : Escaping} → x ≡ escaping_in c.word → Rel c w o b s → escaping_now s ≡ x
escaping-told {c} {s = s} p r =
    sym
    (p ∙ ap (λ (f : Flags). escaping_of f.encode (apostrophes_in c.word)) r.flags
    ∙ ap (λ (f : Fixed). escaping_of s.flags.encode f.apostrophes) r.fixed)
