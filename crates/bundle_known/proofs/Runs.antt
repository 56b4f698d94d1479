-- A run of blocks that comes in two parts: what is taken of the first and then of the second is what is taken of both. Assumes nothing.
use Rattle.std.proofs.Common.{◌≡◌, sym, ap, ◌∙◌, ◌⊎◌, inl, inr, ⊎_elim, List, ◌++◌, ℕ, ◌+◌, ◌-◌, ◌*◌, ◌/◌, ◌≤◌, ◌<◌, min, arith, length, drop, length-append, length-drop, drop-drop, Ok}
use Rattle.std.proofs.Math.Decide.{dec_le}
use Rattle.std.proofs.Math.Seq.{drop-append-le}
use Rattle.lent.specs.Fill.{fill, past}
use Rattle.lent.proofs.Laws.{fill_none, fill-out, fill-fill, length-fill}
use Rattle.bundle_block.specs.Block.{◌before◌}
use Rattle.bundle_run.specs.Run.{judge_run, held_in}
use Rattle.bundle_run.proofs.Split.{judge-split, held-split, judge-front, held-front, length_some}
use Rattle.bundle_read.specs.Bundle.{blocks_for}
use Rattle.bundle_read.specs.Sizes.{text_room}
use Rattle.bundle_known.specs.Known.{taken, came_then, judge_taken, fill_taken, left_of}

-- what was put first, and then more behind it, is put as one, with room or without
fill_on : (d : List ℕ) (at : ℕ) (s u : List ℕ) → fill (fill d at s) (at + length s) u ≡ fill d at (s ++ u)
fill_on d at s u =
    elim (dec_le (at + length s) (length d)) [
      | yes h ↦ let e : past d at s ≡ at + length s = omega arith in rw e at (fill-fill d at s u)
      | no h ↦
          let o : length (fill d at s) ≤ at + length s = rw length-fill (omega arith) in
          let p : length (fill d at s) ≤ past d at s = rw length-fill (omega arith) in
          fill-out (fill d at s) (at + length s) u o ∙ sym (fill-out (fill d at s) (past d at s) u p) ∙ fill-fill d at s u
    ]

-- of la bytes and then lb more, where x bytes are due: lc bytes and y due bytes are left after the first
module _ (la lb lc x y m : ℕ) (p : lc ≡ la - 512 * m + lb) (q : y ≡ x - 500 * m) where
  counted-due : blocks_for 500 x ≤ la / 512 → m ≡ blocks_for 500 x → min ((la + lb) / 512) (blocks_for 500 x) ≡ m + min (lc / 512) (blocks_for 500 y)
  counted-due h e =
      let z : y ≡ 0 = omega arith in
      let w : blocks_for 500 y ≡ 0 = omega arith in
      let v : blocks_for 500 x ≤ (la + lb) / 512 = omega arith in
      omega (arith, e, w, v)

  counted-there : la / 512 < blocks_for 500 x → m ≡ la / 512 → min ((la + lb) / 512) (blocks_for 500 x) ≡ m + min (lc / 512) (blocks_for 500 y)
  counted-there h e =
      let w : blocks_for 500 x ≡ m + blocks_for 500 y = omega arith in
      let v : (la + lb) / 512 ≡ m + lc / 512 = omega arith in
      omega (arith, w, v)

counted-came : (x y m n : ℕ) → y ≡ x - 500 * m → min (500 * (m + n)) x ≡ min (500 * m) x + min (500 * n) y
counted-came x y m n q = omega arith

-- ---- no block is taken: there is none, or none is due

pub none-there : (came total : ℕ) (l : List ℕ) → length l < 512 → taken came total l ≡ 0
none-there came total l h = omega arith

pub none-due : (came total : ℕ) (l : List ℕ) → total ≤ came → taken came total l ≡ 0
none-due came total l h = omega arith

module _ (came total : ℕ) (l : List ℕ) (h : taken came total l ≡ 0) where
  pub none-judged : (edition kind index : ℕ) → judge_taken edition kind index came total l ≡ Ok tt
  unfolding judge_taken judge_run
  none-judged edition kind index = rw h

  pub none_came : came_then came total l ≡ came
  none_came = omega arith

  pub none_filled : (d : List ℕ) → fill_taken came total d l ≡ d
  unfolding fill_taken held_in
  none_filled d = rw h (fill_none d came)

  pub all_left : left_of came total l ≡ l
  all_left = rw h

-- ---- blocks that are taken

module _ (came total : ℕ) (a : List ℕ) where
  pub taken-there : 512 * taken came total a ≤ length a
  taken-there = omega arith

  length-left : length (left_of came total a) ≡ length a - 512 * taken came total a
  length-left = length-drop (512 * taken came total a) a

  -- all that are whole, or all that are due
  pub taken-all : (length (left_of came total a) < 512) ⊎ (total ≤ came_then came total a)
  taken-all =
      let n = length-left in
      elim (dec_le (blocks_for text_room (total - came)) (length a / 512)) [
        | yes h ↦ inr (omega arith)
        | no h ↦ inl (omega arith)
      ]

  due-then : total - came_then came total a ≡ total - came - text_room * taken came total a
  due-then = omega arith

  pub length-filled : (d : List ℕ) → length (fill_taken came total d a) ≡ length d
  unfolding fill_taken
  length-filled d = length-fill d came (held_in text_room (taken came total a) (total - came) a)

  module _ (b : List ℕ) where
    second_taken : ℕ
    second_taken = taken (came_then came total a) total (left_of came total a ++ b)

    taken-both : taken came total (a ++ b) ≡ taken came total a + second_taken
    unfolding second_taken
    taken-both =
        let m = length-append (left_of came total a) b ∙ ap (λ (n : ℕ). n + length b) length-left in
        rw length-append
        (elim (dec_le (blocks_for text_room (total - came)) (length a / 512)) [
          | yes h ↦ counted-due (length a) (length b) (length (left_of came total a ++ b)) (total - came) (total - came_then came total a) (taken came total a) m due-then h (omega arith)
          | no h ↦ counted-there (length a) (length b) (length (left_of came total a ++ b)) (total - came) (total - came_then came total a) (taken came total a) m due-then (omega arith) (omega arith)
        ])

    pub came-both : came_then came total (a ++ b) ≡ came_then (came_then came total a) total (left_of came total a ++ b)
    unfolding second_taken
    came-both =
        let e = counted-came (total - came) (total - came_then came total a) (taken came total a) second_taken due-then in
        rw taken-both (omega (arith, e))

    left-drop : drop (512 * taken came total a) (a ++ b) ≡ left_of came total a ++ b
    left-drop = drop-append-le (512 * taken came total a) a b taken-there

    pub left_both : left_of came total (a ++ b) ≡ left_of (came_then came total a) total (left_of came total a ++ b)
    unfolding second_taken
    left_both =
        let d : 512 * (taken came total a + second_taken) ≡ 512 * taken came total a + 512 * second_taken = omega arith in
        rw (taken-both, d, ← drop-drop (512 * second_taken) (512 * taken came total a) (a ++ b), left-drop)

    held_both : held_in text_room (taken came total (a ++ b)) (total - came) (a ++ b)
        ≡ held_in text_room (taken came total a) (total - came) a ++ held_in text_room second_taken (total - came_then came total a) (left_of came total a ++ b)
    unfolding second_taken
    held_both =
        rw (
          taken-both,
          held-split text_room (taken came total a) second_taken (total - came) (a ++ b),
          held-front text_room (taken came total a) (total - came) a b (omega arith) taken-there,
          left-drop,
          ← due-then,
        )

    pub fill-both : (d : List ℕ) → fill_taken came total d (a ++ b) ≡ fill_taken (came_then came total a) total (fill_taken came total d a) (left_of came total a ++ b)
    unfolding fill_taken second_taken
    fill-both d =
        let first = held_in text_room (taken came total a) (total - came) a in
        let second = held_in text_room second_taken (total - came_then came total a) (left_of came total a ++ b) in
        let n = length_some text_room (taken came total a) (total - came) a (omega arith) taken-there in
        ap (fill d came) held_both ∙ sym (fill_on d came first second) ∙ ap (λ (k : ℕ). fill (fill d came first) (came + k) second) n

    judge-next : (edition kind index : ℕ) → judge_taken edition kind index came total (a ++ b)
        ≡ (judge_taken edition kind index came total a before judge_taken edition kind (index + taken came total a) (came_then came total a) total (left_of came total a ++ b))
    unfolding judge_taken second_taken
    judge-next edition kind index =
        rw (
          taken-both,
          judge-split edition kind text_room (taken came total a) second_taken index (total - came) (a ++ b),
          judge-front edition kind text_room (taken came total a) index (total - came) a b taken-there,
          left-drop,
          due-then,
        )

    -- the number of the next block is told by what has come, or there is none
    index-next : (second_taken ≡ 0) ⊎ (blocks_for text_room (came_then came total a) ≡ blocks_for text_room came + taken came total a)
    unfolding second_taken
    index-next =
        elim (dec_le (text_room * taken came total a) (total - came)) [
          | yes h ↦ inr (omega arith)
          | no h ↦ inl (none-due (came_then came total a) total (left_of came total a ++ b) (omega arith))
        ]

    pub judge-both : (edition kind index index' : ℕ) → index' + blocks_for text_room came ≡ index + blocks_for text_room (came_then came total a) → judge_taken edition kind index came total (a ++ b)
        ≡ (judge_taken edition kind index came total a before judge_taken edition kind index' (came_then came total a) total (left_of came total a ++ b))
    unfolding second_taken
    judge-both edition kind index index' p =
        judge-next edition kind index
        ∙ ⊎_elim
        (λ z.
        rw (
          none-judged (came_then came total a) total (left_of came total a ++ b) z edition kind (index + taken came total a),
          none-judged (came_then came total a) total (left_of came total a ++ b) z edition kind index',
        ))
        (λ e. let n : index + taken came total a ≡ index' = omega arith in rw n)
        index-next
