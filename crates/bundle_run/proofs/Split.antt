-- A run of blocks in two parts, and a run at the front of more bytes. Assumes nothing.
use Rattle.std.proofs.Common.{◌≡◌, refl, List, ◌++◌, append_assoc, ℕ, zero, suc, ◌+◌, ◌-◌, ◌*◌, ◌≤◌, min, zero-add, suc-add, mul-zero, mul-suc, arith, length, take, drop, length-append, length-take, length-drop, drop-drop, Ok, Err}
use Rattle.std.proofs.Math.Nat.{sub-zero}
use Rattle.std.proofs.Math.Seq.{take-append-le, drop-append-le}
use Rattle.bundle_block.specs.Block.{Verdict, ◌before◌, judge_block}
use Rattle.bundle_run.specs.Run.{judge_run, held_in}

pub before-assoc : (u v w : Verdict) → ((u before v) before w) ≡ (u before v before w)
before-assoc (Ok o) v w = refl
before-assoc (Err r) v w = refl

-- ---- in two parts

module _ (edition kind room : ℕ) where
  pub judge-split : (m n block used : ℕ) (l : List ℕ)
      → judge_run edition kind room block (m + n) used l ≡ (judge_run edition kind room block m used l before judge_run edition kind room (block + m) n (used - room * m) (drop (512 * m) l))
  unfolding judge_run
  judge-split zero n block used l =
      let b : block + 0 ≡ block = omega arith in
      rw (zero-add, b, mul-zero, sub-zero)
  judge-split (suc m) n block used l =
      let b : block + suc m ≡ block + 1 + m = omega arith in
      let s = mul-suc room m in
      let u : used - room * suc m ≡ used - room - room * m = omega arith in
      let d : 512 * suc m ≡ 512 + 512 * m = omega arith in
      rw (
        suc-add,
        judge-split m n (block + 1) (used - room) (drop 512 l),
        before-assoc (judge_block edition block kind (min room used) (take 512 l)) (judge_run edition kind room (block + 1) m (used - room) (drop 512 l))
            (judge_run edition kind room (block + suc m) n (used - room * suc m) (drop (512 * suc m) l)),
        b,
        u,
        d,
        drop-drop (512 * m) 512 l,
      )

pub held-split : (room m n used : ℕ) (l : List ℕ) → held_in room (m + n) used l ≡ held_in room m used l ++ held_in room n (used - room * m) (drop (512 * m) l)
unfolding held_in
held-split room zero n used l = rw (zero-add, mul-zero, sub-zero)
held-split room (suc m) n used l =
    let s = mul-suc room m in
    let u : used - room * suc m ≡ used - room - room * m = omega arith in
    let d : 512 * suc m ≡ 512 + 512 * m = omega arith in
    rw (
      suc-add,
      held-split room m n (used - room) (drop 512 l),
      u,
      d,
      append_assoc (take (min room used) (drop 8 l)) (held_in room m (used - room) (drop 512 l)) (held_in room n (used - room - room * m) (drop (512 + 512 * m) l)),
      drop-drop (512 * m) 512 l,
    )

-- ---- at the front of more

pub judge-front : (edition kind room m block used : ℕ) (a b : List ℕ) → 512 * m ≤ length a → judge_run edition kind room block m used (a ++ b) ≡ judge_run edition kind room block m used a
unfolding judge_run
judge-front edition kind room zero block used a b h = refl
judge-front edition kind room (suc m) block used a b h =
    let n : 512 ≤ length a = omega arith in
    rw (take-append-le 512 a b n, drop-append-le 512 a b n, judge-front edition kind room m (block + 1) (used - room) (drop 512 a) b (rw length-drop (omega arith)))

pub held-front : (room m used : ℕ) (a b : List ℕ) → room ≤ 500 → 512 * m ≤ length a → held_in room m used (a ++ b) ≡ held_in room m used a
unfolding held_in
held-front room zero used a b r h = refl
held-front room (suc m) used a b r h =
    let n : 512 ≤ length a = omega arith in
    let e : 8 ≤ length a = omega arith in
    let w : min room used ≤ length (drop 8 a) = rw length-drop (omega arith) in
    rw (
      drop-append-le 8 a b e,
      take-append-le (min room used) (drop 8 a) b w,
      drop-append-le 512 a b n,
      held-front room m (used - room) (drop 512 a) b r (rw length-drop (omega arith)),
    )

-- how much so many blocks hold
pub length_some : (room m used : ℕ) (l : List ℕ) → room ≤ 500 → 512 * m ≤ length l → length (held_in room m used l) ≡ min (room * m) used
unfolding held_in
length_some room zero used l r h = let z = mul-zero room in omega arith
length_some room (suc m) used l r h =
    let s = mul-suc room m in
    let a : length (take (min room used) (drop 8 l)) ≡ min room used = simp (length-take, length-drop) (omega arith) in
    let b = length_some room m (used - room) (drop 512 l) r (rw length-drop (omega arith)) in
    simp (length-append, a, b) (omega arith)
