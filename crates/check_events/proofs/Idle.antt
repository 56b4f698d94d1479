-- Names that no rule looks at, by their bits. Assumes nothing.
use Rattle.std.proofs.Common.{◌≡◌, refl, sym, ◌∙◌, Bool, true, false, true≢false, ℕ, ◌/◌, ◌^◌, ◌<◌, arith, ne_eqb, bit_and, eqb}
use lib.Bits.{and_mask}
use Rattle.event.specs.declared.Event.{Event}
use Rattle.event.specs.Event.{is_enter}
use Rattle.check_slices.specs.Slices.{part}
use Rattle.check_slices.proofs.Rules.{of_others}
use Rattle.check_slices.proofs.Laws.{enter-holds, exit-holds, behind-enter, behind-exit, others-hold, exits-hold, others-uncounted, exits-uncounted}
use Rattle.check_events.specs.Walk.{Unsliced, Uncounted, IdleEnter, IdleExit}

pub low : (x : ℕ) → bit_and x 63 < 64
low x = let p = and_mask x 6 in omega arith

-- whether the bit of a name is not set
abbrev clear : (word name : ℕ) → Bool
clear word name = eqb (bit_and (word / 2 ^ bit_and name 63) 1) 0

-- a name whose bit is not set is none whose bit is
other : (word m : ℕ) {name : ℕ} → clear word m ≡ false → clear word name ≡ true → name ≡ m → ⊥
other word m p q h = let r : clear word m ≡ true = rw h at q in true≢false (sym r ∙ p)

-- ---- by kind and name

module _ (e : Event) where
  pub unsliced-enter : is_enter e ≡ true → (e.name ≡ 13 → ⊥) → Unsliced e
  unsliced-enter k n =
      record {
        holds = λ text seen. sym (enter-holds e (is_enter e) refl text seen k);
        stays = λ seen. behind-enter e (is_enter e) refl seen k n;
      }

  pub uncounted-exit : is_enter e ≡ false → Uncounted e
  uncounted-exit k =
      record {
        holds = λ n. sym (exits-hold e (is_enter e) refl n k);
        stays = λ n. exits-uncounted e (is_enter e) refl n k;
        unused = rw k;
      }

  uncounted-enter : is_enter e ≡ true → (e.name ≡ 53 → ⊥) → (e.name ≡ 63 → ⊥) → (e.name ≡ 45 → ⊥) → (e.name ≡ 46 → ⊥) → (e.name ≡ 62 → ⊥) → Uncounted e
  uncounted-enter k a b x y z =
      record {
        holds = λ n. sym (others-hold e (is_enter e) refl n k a b);
        stays = λ n. others-uncounted e (is_enter e) refl n k a b;
        unused = rw (k, ne_eqb e.name 45 x, ne_eqb e.name 46 y, ne_eqb e.name 62 z);
      }

  pub uncounted-heading : is_enter e ≡ true → e.name ≡ 13 → Uncounted e
  uncounted-heading k h = uncounted-enter k (λ z. omega arith) (λ z. omega arith) (λ z. omega arith) (λ z. omega arith) (λ z. omega arith)

-- ---- by the bits

pub idle-enter : (name : ℕ) → IdleEnter name (clear 13844170807653179392 name)
idle-enter name =
    record {
      unsliced = λ r e k p. unsliced-enter e k (λ z. other 13844170807653179392 13 refl r (sym p ∙ z));
      uncounted = λ r e k p.
          let n : (m : ℕ) → clear 13844170807653179392 m ≡ false → e.name ≡ m → ⊥ = λ m t z. other 13844170807653179392 m t r (sym p ∙ z) in
          uncounted-enter e k (n 53 refl) (n 63 refl) (n 45 refl) (n 46 refl) (n 62 refl);
    }

pub idle-exit : (name : ℕ) → IdleExit name (clear 67391256 name)
idle-exit name =
    record {
      unsliced = λ r e k p.
          let n : (m : ℕ) → clear 67391256 m ≡ false → e.name ≡ m → ⊥ = λ m t z. other 67391256 m t r (sym p ∙ z) in
          record {
            holds = λ text seen.
                let s = part text e.from.0 e.to.0 in
                let others = of_others seen e.name s (n 3 refl) (n 4 refl) (n 26 refl) (n 14 refl) (n 18 refl) (n 11 refl) in
                sym (exit-holds e (is_enter e) refl text seen true s k refl others);
            stays = λ seen. behind-exit e (is_enter e) refl seen k (n 14 refl) (n 8 refl) (n 9 refl) (n 10 refl);
          };
    }
