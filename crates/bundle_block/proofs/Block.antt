-- What the code goes by on one block: its fields, and verdicts. Assumes nothing.
use Rattle.std.proofs.Common.{◌≡◌, refl, sym, ◌∙◌, Bool, true, false, ◌&&◌, List, [], ◌∷◌, ℕ, zero, suc, ◌+◌, ◌-◌, ◌≤◌, arith, Ok, Err, eqb, length, take, drop, get_or, drop-drop, Result, IsErr, IsErrAnd, ap}
use Rattle.std.proofs.Math.Nat.{sub-zero, zero-sub, suc-sub-suc}
use Rattle.std.proofs.Math.Seq.{take-nil}
use Rattle.std.proofs.lemmas.Result.{err_from_is_err_and}
use Rattle.lent.specs.Bytes.{all}
use Rattle.lent.proofs.Laws.{and_left, and_right}
use Rattle.little.proofs.Laws.{one_byte}
use Rattle.bundle_block.specs.declared.Refusal.{Refusal}
use Rattle.bundle_block.specs.declared.Refusal.TheVariants.{Broken, BadCheck, OtherEdition}
use Rattle.bundle_block.specs.Block.{check_of, edition_in, number_in, check_in, is_zero, Verdict, ◌before◌, demand, judge_check, judge_edition, judge_order, judge_block}

-- ---- lists

pub drop-take : (n m : ℕ) (l : List ℕ) → drop n (take m l) ≡ take (m - n) (drop n l)
drop-take zero m l = rw sub-zero
drop-take (suc n) zero l = rw zero-sub
drop-take (suc n) (suc m) [] = sym (take-nil (suc m - suc n))
drop-take (suc n) (suc m) (x ∷ l) = drop-take n m l ∙ rw suc-sub-suc

-- ---- verdicts

-- a verdict that was found, and the next
module _ {u a : Verdict} (p : u ≡ a) where
  pub first-bad : (b : Verdict) {r : Refusal} → u ≡ Err r → Err r ≡ (a before b)
  first-bad b q = rw (← p, q)

  pub then_next : {v b : Verdict} → u ≡ Ok tt → v ≡ b → v ≡ (a before b)
  then_next q r = rw (← p, q) r

-- the refusal that a `?` hands on
module _ {A : Type 0} {e : Refusal} (r : Result A Refusal) (h : IsErr r × IsErrAnd r (λ y. y ≡ e)) where
  pub handed : r ≡ Err e
  handed = let p = err_from_is_err_and r h.1 in p.1 ∙ ap Err p.2

  pub handed-on : (total : Result A Refusal) → Err e ≡ total → r ≡ total
  handed-on total q = handed ∙ q

-- a good verdict says what was demanded
pub demanded : (b : Bool) (r : Refusal) → demand b r ≡ Ok tt → b ≡ true
demanded true r p = refl
demanded false r p = let z : ◌≡◌ {A = ℕ} 0 1 = cc in absurd (omega arith)

pub both_true : (a b : Bool) → (a && b) ≡ true → (a ≡ true) × (b ≡ true)
both_true a b p = (and_left a b p, and_right a b p)

pub demanded-both : (a b : Bool) (r : Refusal) → demand (a && b) r ≡ Ok tt → (a ≡ true) × (b ≡ true)
demanded-both a b r p = both_true a b (demanded (a && b) r p)

pub both-good : (v w : Verdict) → (v before w) ≡ Ok tt → (v ≡ Ok tt) × (w ≡ Ok tt)
both-good (Ok o) w p = (refl, p)
both-good (Err r) w p = let z : ◌≡◌ {A = ℕ} 0 1 = cc in absurd (omega arith)

-- ---- one block

module _ (b : List ℕ) (k : ℕ) {v : Verdict} where
  pub check-judged : {a s : ℕ} → a ≡ check_in b → s ≡ check_of (take (508 - 0) (drop 0 b)) → v ≡ demand (eqb a s) (BadCheck k) → v ≡ judge_check k b
  unfolding judge_check
  check-judged p q r = r ∙ rw (p, q)

  pub edition-judged : {a : ℕ} (e : ℕ) → a ≡ edition_in b → v ≡ demand (eqb a e) (OtherEdition k) → v ≡ judge_edition e k b
  unfolding judge_edition
  edition-judged e p r = r ∙ rw p

  pub order-judged : {a : ℕ} {u : Bool} (kind used : ℕ) → length b ≡ 512 → used ≤ 500 → a ≡ number_in b → u ≡ all is_zero (take (508 - (8 + used)) (drop (8 + used) b))
      → v ≡ demand (eqb a k && eqb (get_or b 6 0) kind && eqb (get_or b 7 0) 0 && u) (Broken k) → v ≡ judge_order k kind used b
  unfolding judge_order
  order-judged kind used h i p q r =
      let n : 508 - (8 + used) ≡ 500 - used = omega arith in
      r ∙ rw (p, q, n, ← one_byte 6 b, ← one_byte 7 b, drop-take used 500 (drop 8 b), drop-drop used 8 b)

  pub judged : {x y o w : Verdict} (e kind used : ℕ) → x ≡ judge_check k b → y ≡ judge_edition e k b → o ≡ judge_order k kind used b → w ≡ (y before o) → v ≡ (x before w) → v ≡ judge_block e k kind used b
  unfolding judge_block
  judged e kind used p q r s t = cc
