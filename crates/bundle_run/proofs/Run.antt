-- What the code goes by on a run of blocks: the verdict on it, and what it holds, block by block. Assumes nothing.
use Rattle.std.proofs.Common.{◌≡◌, ap, ◌∙◌, List, ◌++◌, ℕ, zero, suc, ◌+◌, ◌-◌, ◌*◌, ◌≤◌, ◌<◌, min, zero-add, mul-zero, mul-suc, arith, length, take, drop, length-append, length-take, length-drop, drop-drop, Ok, Err}
use Rattle.std.proofs.Math.Nat.{sub-zero}
use Rattle.lent.specs.Fill.{zeros, Filled}
use Rattle.lent.specs.declared.Writer.{Writer}
use Rattle.lent.specs.Writer.{Writes}
use Rattle.lent.proofs.Laws.{length-filled, take-fill}
use Rattle.lent.proofs.Writing.{Due, all, step, done}
use Rattle.bundle_block.specs.declared.Refusal.{Refusal}
use Rattle.bundle_block.specs.Block.{Verdict, ◌before◌, judge_block}
use Rattle.bundle_run.specs.Run.{judge_run, held_in}

-- ---- the verdict

module _ (edition kind room start index end left : ℕ) {here : ℕ} {v total : Verdict} (l : List ℕ) (k : start ≤ index) (h : index < end) (m : here ≡ min room left)
    (j : v ≡ judge_block edition index kind here (take (512 * (index - start) + 512 - 512 * (index - start)) (drop (512 * (index - start)) l)))
    (p : judge_run edition kind room index (end - index) left (drop (512 * (index - start)) l) ≡ total) where
  run_step : (v before judge_run edition kind room (index + 1) (end - (index + 1)) (left - here) (drop (512 * (index + 1 - start)) l)) ≡ total
  unfolding judge_run
  run_step =
      let n : end - index ≡ suc (end - (index + 1)) = omega arith in
      let s : 512 * (index - start) + 512 - 512 * (index - start) ≡ 512 = omega arith in
      let g : left - room ≡ left - here = omega arith in
      let t : 512 * (index + 1 - start) ≡ 512 * (index - start) + 512 = omega arith in
      let q = rw (n, g, ← m, drop-drop 512 (512 * (index - start)) l) at p in
      rw (j, s, t) q

  pub run-bad : {r : Refusal} → v ≡ Err r → Err r ≡ total
  run-bad q = rw q at run_step

  pub run-good : v ≡ Ok tt → judge_run edition kind room (index + 1) (end - (index + 1)) (left - here) (drop (512 * (index + 1 - start)) l) ≡ total
  run-good q = rw q at run_step

pub run_all : (edition kind room start n left : ℕ) (l : List ℕ) → judge_run edition kind room start n left (drop (512 * (start - start)) l) ≡ judge_run edition kind room start n left l
run_all edition kind room start n left l = let z : start - start ≡ 0 = omega arith in rw z

pub run_end : (edition kind room index end left : ℕ) (l : List ℕ) {total : Verdict} → end ≤ index → judge_run edition kind room index (end - index) left l ≡ total → Ok tt ≡ total
unfolding judge_run
run_end edition kind room index end left l h p = let n : end - index ≡ 0 = omega arith in rw n at p

-- ---- what it holds

module _ (room count left i : ℕ) {here : ℕ} {u v w : Writer} {s₀ : List ℕ} (l : List ℕ) (h : i < count) (k : here ≡ min room left)
    (p : Due s₀ u (held_in room (count - i) left (drop (512 * i) l)) v) (q : Writes (take (512 * i + 8 + here - (512 * i + 8)) (drop (512 * i + 8) l)) v w) where
  pub held-step : Due s₀ u (held_in room (count - (i + 1)) (left - here) (drop (512 * (i + 1)) l)) w
  unfolding held_in
  held-step =
      let n : count - i ≡ suc (count - (i + 1)) = omega arith in
      let g : left - room ≡ left - here = omega arith in
      let s : 512 * i + 8 + here - (512 * i + 8) ≡ here = omega arith in
      let t : 512 * (i + 1) ≡ 512 * i + 512 = omega arith in
      step (rw (n, g, ← k, drop-drop 8 (512 * i) l, drop-drop 512 (512 * i) l, s, t)) p q

pub held_none : (room count used : ℕ) (l : List ℕ) (v : Writer) → Due (held_in room count used l) v (held_in room (count - 0) used (drop (512 * 0) l)) v
held_none room count used l v = rw sub-zero all

pub held-end : (room count left i : ℕ) {u v : Writer} {s₀ : List ℕ} (l : List ℕ) → count ≤ i → Due s₀ u (held_in room (count - i) left l) v → Writes s₀ u v
unfolding held_in
held-end room count left i l h p = let n : count - i ≡ 0 = omega arith in done (rw n) p

-- it is as long as is said
pub length-held : (room n used : ℕ) (l : List ℕ) → room ≤ 500 → used ≤ room * n → 512 * n ≤ length l → length (held_in room n used l) ≡ used
unfolding held_in
length-held room zero used l h k m = let e = mul-zero room in omega arith
length-held room (suc n) used l h k m =
    let e = mul-suc room n in
    let a : length (take (min room used) (drop 8 l)) ≡ min room used = simp (length-take, length-drop) (omega arith) in
    let b = length-held room n (used - room) (drop 512 l) h (omega arith) (rw length-drop (omega arith)) in
    simp (length-append, a, b) (omega arith)

-- what was put at the start of a buffer that is long enough, and the rest cleared
filled-cleared : {d e f s : List ℕ} {end : ℕ} → length s ≤ length d → Filled d 0 s e end → f ≡ take end e ++ zeros (length e - end) → f ≡ s ++ zeros (length d - length s)
filled-cleared {d} {e} {f} {s} {end} h p q =
    let a = p.place in
    let n : end ≡ length s = omega arith in
    let t : take (length s) e ≡ s = rw zero-add at (ap (take (0 + length s)) p.bytes ∙ take-fill d 0 s (omega arith)) in
    q ∙ rw (n, length-filled p, t)

pub run-filled : (room n used : ℕ) (l : List ℕ) {d e f : List ℕ} {end : ℕ} → 512 * n ≤ length l → room ≤ 500 → used ≤ room * n → used ≤ length d
    → Filled d 0 (held_in room n used l) e end → f ≡ take end e ++ zeros (length e - end) → f ≡ held_in room n used l ++ zeros (length d - used)
run-filled room n used l {d} h i j k p q =
    let m = length-held room n used l i j h in
    let g : length (held_in room n used l) ≤ length d = omega arith in
    filled-cleared g p q ∙ ap (λ (x : ℕ). held_in room n used l ++ zeros (length d - x)) m
