-- What the code goes by on a run of blocks: one behind the other, each with its part of what is given. Assumes nothing.
use Rattle.std.proofs.Common.{◌≡◌, sym, ◌∙◌, List, ℕ, suc, ◌+◌, ◌-◌, ◌*◌, ◌≤◌, ◌<◌, min, arith, length, take, drop, length-take, length-drop, drop_of_length-le, take_all, drop-drop}
use Rattle.std.proofs.Math.Decide.{dec_le}
use Rattle.lent.specs.declared.Writer.{Writer}
use Rattle.lent.specs.Writer.{Writes}
use Rattle.lent.proofs.Writing.{Due, length-written, step, done}
use Rattle.bundle_block.specs.Block.{block_of}
use Rattle.bundle_block.proofs.Inverse.{length-block}
use Rattle.bundle_run.specs.Run.{run_of}

-- no more than there is
module _ (n : ℕ) (l : List ℕ) where
  take-least : take (min n (length l)) l ≡ take n l
  take-least = elim (dec_le n (length l)) [
    | yes h ↦ let m : min n (length l) ≡ n = omega arith in rw m
    | no h ↦ let m : min n (length l) ≡ length l = omega arith in rw m (take_all (length l) l (omega arith) ∙ sym (take_all n l (omega arith)))
  ]

  drop-least : drop (min n (length l)) l ≡ drop n l
  drop-least = elim (dec_le n (length l)) [
    | yes h ↦ let m : min n (length l) ≡ n = omega arith in rw m
    | no h ↦
        let a : length l ≤ min n (length l) = omega arith in
        let b : length l ≤ n = omega arith in
        drop_of_length-le l a ∙ sym (drop_of_length-le l b)
  ]

-- ---- the loop

module _ (edition kind room index end from : ℕ) {here : ℕ} (given : List ℕ) {u v w : Writer} {s₀ : List ℕ} where
  pub run_step : index < end → from ≤ length given → here ≡ min room (length given - from) → Due s₀ u (run_of edition kind room index (end - index) (drop from given)) v
      → Writes (block_of edition index kind (take (from + here - from) (drop from given))) v w → Due s₀ u (run_of edition kind room (index + 1) (end - (index + 1)) (drop (from + here) given)) w
  unfolding run_of
  run_step h k m p q =
      let n : end - index ≡ suc (end - (index + 1)) = omega arith in
      let c : here ≡ min room (length (drop from given)) = rw length-drop m in
      let a : from + here - from ≡ here = omega arith in
      let t : take here (drop from given) ≡ take room (drop from given) = rw c (take-least room (drop from given)) in
      let e : drop (from + here) given ≡ drop room (drop from given) = sym (drop-drop here from given) ∙ rw c (drop-least room (drop from given)) in
      rw e (step (rw n) p (rw (a, t) at q))

-- the next block has room
pub room-next : (edition kind room index end from : ℕ) {here : ℕ} (given : List ℕ) {v w : Writer} → index < end → from ≤ length given → here ≡ min room (length given - from) → room ≤ 500
    → v.at + 512 * (end - index) ≤ length v.bytes.now → Writes (block_of edition index kind (take (from + here - from) (drop from given))) v w → w.at + 512 * (end - (index + 1)) ≤ length w.bytes.now
room-next edition kind room index end from {here} given h k m r l q =
    let y : length (take (from + here - from) (drop from given)) ≤ 500 = simp (length-take, length-drop) (omega arith) in
    let a = length-block edition index kind (take (from + here - from) (drop from given)) y in
    let b = length-written q in
    let c = q.filled.place in
    omega arith

pub run_end : (edition kind room index end : ℕ) {u v : Writer} {s₀ : List ℕ} (l : List ℕ) → end ≤ index → Due s₀ u (run_of edition kind room index (end - index) l) v → Writes s₀ u v
unfolding run_of
run_end edition kind room index end l h p = let n : end - index ≡ 0 = omega arith in done (rw n) p
