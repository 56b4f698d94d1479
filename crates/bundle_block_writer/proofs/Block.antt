-- What the code goes by on one block: its words, its payload with zeros behind, and the check of what stands there. Assumes nothing.
use Rattle.std.proofs.Common.{◌≡◌, sym, ap, ◌∙◌, List, [], ◌∷◌, ◌++◌, append_assoc, ℕ, zero, suc, ◌+◌, ◌-◌, ◌≤◌, ◌<◌, arith, length, take, drop, length-append, length-take, length-drop, drop-drop, take_all}
use Rattle.std.proofs.Math.Seq.{append_snoc}
use Rattle.std.proofs.lemmas.List.{length-replicate}
use Rattle.lent.specs.Fill.{fill, zeros, Filled}
use Rattle.lent.specs.declared.Writer.{Writer}
use Rattle.lent.specs.Writer.{Writes}
use Rattle.lent.proofs.Laws.{fill-behind, take-fill}
use Rattle.lent.proofs.Writing.{Due, then, by, length-written, step, done}
use Rattle.little.proofs.Laws.{length-little}
use Rattle.bundle_block.specs.Block.{little, check_of, front_of, block_of}
use Rattle.bundle_block.proofs.Inverse.{length-block}

-- what was written where it has room stands there
stands : {s : List ℕ} {v w : Writer} → v.at + length s ≤ length v.bytes.now → Writes s v w → take (w.at - v.at) (drop v.at w.bytes.now) ≡ s
stands {s} {v} {w} h p =
    let a = p.filled.place in
    let n : w.at - v.at ≡ 0 + length s = omega arith in
    let z : v.at + 0 ≡ v.at = omega arith in
    let k : 0 + length s ≤ length (drop v.at v.bytes.now) = rw length-drop (omega arith) in
    let b : drop v.at (fill v.bytes.now v.at s) ≡ fill (drop v.at v.bytes.now) 0 s = rw z at (fill-behind v.at v.bytes.now 0 s) in
    rw (n, p.filled.bytes, b) (take-fill (drop v.at v.bytes.now) 0 s k)

-- ---- the zeros behind a payload

-- bytes in the place of as many
fill-part : (d s : List ℕ) (at : ℕ) → at + length s ≤ length d → take at d ++ (s ++ drop (length s) (drop at d)) ≡ fill d at s
unfolding fill
fill-part d s at h =
    let n : length (take at d ++ s ++ drop (at + length s) d) ≤ length d = simp (length-append, length-take, length-drop) (omega arith) in
    rw (drop-drop (length s) at d) (sym (append_assoc (take at d) s (drop (at + length s) d)) ∙ sym (take_all (length d) (take at d ++ s ++ drop (at + length s) d) n))

-- zeros there
pub zeros-put : (d m : List ℕ) (from end n : ℕ) → from + n ≡ end → end ≤ length d → m ≡ take 0 (take (end - from) (drop from d)) ++ zeros (length (take (end - from) (drop from d)) - 0)
    → Filled d from (zeros n) (take from d ++ (m ++ drop (end - from) (drop from d))) end
zeros-put d m from end n h k q =
    let c : end - from ≡ n = omega arith in
    let w : length (take n (drop from d)) - 0 ≡ n = simp (length-take, length-drop) (omega arith) in
    let z : length (zeros n) ≡ n = simp length-replicate in
    let b : take from d ++ (zeros n ++ drop n (drop from d)) ≡ fill d from (zeros n) = rw z at (fill-part d (zeros n) from (omega arith)) in
    record { bytes = rw (q, c, w) b; place = omega arith }

-- behind the words a whole payload has room, and behind the payload its rest
pub words-fit : (edition number kind : ℕ) {u v : Writer} → u.at + 512 ≤ length u.bytes.now → Writes (little 4 edition ++ little 2 number ++ little 1 kind ++ 0 ∷ []) u v → v.at + 500 ≤ length v.bytes.now
words-fit edition number kind h p =
    let a = p.filled.place in
    let n : length (little 4 edition ++ little 2 number ++ little 1 kind ++ 0 ∷ []) ≡ 8 = simp (length-append, length-little) (omega arith) in
    let b = length-written p in
    omega (arith)

pub rest-fits : {s : List ℕ} {v w : Writer} → v.at + 500 ≤ length v.bytes.now → length s ≤ 500 → Writes s v w → w.at + (500 - length s) ≤ length w.bytes.now
rest-fits h k p = let a = p.filled.place in let b = length-written p in omega arith

-- ---- a block

module _ (edition number kind : ℕ) (payload : List ℕ) {u v w : Writer} (h : u.at + 512 ≤ length u.bytes.now) (k : length payload ≤ 500)
    (p : Writes (little 4 edition ++ little 2 number ++ little 1 kind ++ 0 ∷ []) u v) (q : Writes (payload ++ zeros (500 - length payload)) v w) where
  front-put : Writes (front_of edition number kind payload) u w
  unfolding front_of
  front-put =
      let fields = little 4 edition ++ little 2 number ++ little 1 kind in
      let rest = zeros (500 - length payload) in
      by (ap (λ (x : List ℕ). x ++ rest) (sym (append_snoc fields 0 payload)) ∙ append_assoc (fields ++ 0 ∷ []) payload rest) (then p q)

  length_front : length (front_of edition number kind payload) ≡ 508
  unfolding block_of
  length_front =
      let a = length-block edition number kind payload k in
      let b = length-append (front_of edition number kind payload) (little 4 (check_of (front_of edition number kind payload))) in
      let c = length-little 4 (check_of (front_of edition number kind payload)) in
      omega arith

  front-stands : take (w.at - u.at) (drop u.at w.bytes.now) ≡ front_of edition number kind payload
  front-stands = let n = length_front in stands (omega arith) front-put

  pub block_written : {x : Writer} {check : ℕ} → check ≡ check_of (take (w.at - u.at) (drop u.at w.bytes.now)) → Writes (little 4 check) w x → Writes (block_of edition number kind payload) u x
  unfolding block_of
  block_written c s = then front-put (rw (c, front-stands) at s)

  -- what the check is taken of stands in the buffer, and is short enough
  pub front-inside : (u.at ≤ w.at) × (w.at ≤ u.at + 508) × (w.at ≤ length w.bytes.now)
  front-inside = let n = length_front in let a = front-put.filled.place in let b = length-written front-put in (omega arith, omega arith, omega arith)
