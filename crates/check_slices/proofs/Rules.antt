-- The laws of the rules for slices. Assumes nothing.
use Rattle.std.proofs.Common.{◌≡◌, refl, Bool, true, false, List, [], ◌∷◌, ℕ, zero, suc, ◌≤◌, ◌<◌, length, get_or, arith, ◌↔◌, IsTrue, EachIndex, slice_index, eqb, ne_eqb, sym, ◌∙◌}
use mathlib.Core.Bool.{and-false, or-false}
use Rattle.lent.specs.Bytes.{all, is_digit}
use Rattle.lent.proofs.Laws.{and_left, and_right}
use Rattle.check_slices.specs.declared.Seen.{Seen}
use Rattle.check_slices.specs.Slices.{is_ending, slice_holds}

-- ---- line endings

pub no_return : (s : List ℕ) → 2 ≤ length s → length s < 3 → (get_or s 0 0 ≡ 13 → ⊥) → eqb (get_or s 0 0) 13 ≡ is_ending s
unfolding is_ending
no_return [] k l h = absurd (omega arith)
no_return (a ∷ []) k l h = absurd (omega arith)
no_return (a ∷ b ∷ []) k l h = simp (ne_eqb a 13 h, and-false, or-false)
no_return (a ∷ b ∷ c ∷ s) k l h = absurd (omega arith)

pub too-long : (s : List ℕ) → 3 ≤ length s → false ≡ is_ending s
unfolding is_ending
too-long [] h = absurd (omega arith)
too-long (a ∷ []) h = absurd (omega arith)
too-long (a ∷ b ∷ []) h = absurd (omega arith)
too-long (a ∷ b ∷ c ∷ s) h = simp (and-false, or-false)

-- ---- item values

each_of : (s : List ℕ) → all is_digit s ≡ true → (k : ℕ) → k < length s → is_digit (get_or s k 0) ≡ true
each_of [] p k h = absurd (omega arith)
each_of (b ∷ s) p zero h = and_left (is_digit b) (all is_digit s) p
each_of (b ∷ s) p (suc k) h = each_of s (and_right (is_digit b) (all is_digit s) p) k (omega arith)

all_of : (s : List ℕ) → ((k : ℕ) → k < length s → is_digit (get_or s k 0) ≡ true) → all is_digit s ≡ true
all_of [] p = refl
all_of (b ∷ s) p = rw (p 0 (omega arith)) (all_of s (λ k h. p (suc k) (omega arith)))

pub all_digits : (s : List ℕ) (r : Bool) → (IsTrue r ↔ EachIndex s (λ k. is_digit (slice_index s k) ≡ true)) → r ≡ all is_digit s
all_digits s r e = go r (all is_digit s) refl e
  where
    go : (r t : Bool) → all is_digit s ≡ t → (IsTrue r ↔ EachIndex s (λ k. is_digit (slice_index s k) ≡ true)) → r ≡ t
    go true true p e = refl
    go false false p e = refl
    go true false p e = sym (all_of s (e.0 refl)) ∙ p
    go false true p e = e.1 (each_of s p)

-- ---- an exit of no name that has a rule

module _ (seen : Seen) (name : ℕ) (s : List ℕ) where
  pub of_others : (name ≡ 3 → ⊥) → (name ≡ 4 → ⊥) → (name ≡ 26 → ⊥) → (name ≡ 14 → ⊥) → (name ≡ 18 → ⊥) → (name ≡ 11 → ⊥) → true ≡ slice_holds seen name s
  unfolding slice_holds
  of_others a b c d e f = rw (ne_eqb name 3 a, ne_eqb name 4 b, ne_eqb name 26 c, ne_eqb name 14 d, ne_eqb name 18 e, ne_eqb name 11 f)
