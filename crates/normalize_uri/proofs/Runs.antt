-- What the code of `normalize_uri` goes by where it moves runs: by their marks, and by a window of bytes that all stay. Assumes nothing.
use Rattle.std.proofs.Common.{◌≡◌, refl, sym, ap, ap₂, ◌∙◌, Bool, true, false, ◌&&◌, inl, inr, List, [], ◌∷◌, ◌++◌, ℕ, zero, suc, ◌+◌, ◌-◌, ◌*◌, ◌/◌, ◌%◌, ◌^◌, ◌≤◌, ◌<◌, arith, eqb-true, eqb, length, take, drop, get_or, length-drop, drop-drop, take-take, take-add}
use Rattle.std.specs.Simd.{first_chunks}
use Rattle.lent.specs.Bytes.{any, between}
use Rattle.lent.specs.Fill.{zeros}
use Rattle.lent.specs.declared.Writer.{Writer}
use Rattle.lent.specs.Writer.{Writes}
use Rattle.lent.specs.Private.{WritesAhead}
use Rattle.lent.proofs.Writing.{then, by, ahead-end, ahead_more}
use Rattle.lent.proofs.Laws.{next, and_left, and_right, or_left, or_right}
use Rattle.encode_byte.specs.declared.Escaping.{Escaping}
use Rattle.encode.specs.Encode.{encode_of}
use Rattle.url_byte.specs.Byte.{url_byte}
use Rattle.url_byte.specs.Private.{byte_of, is_apart, mark_of}
use Rattle.url_byte.proofs.Marks.{moved-byte, marked-byte, still-moved}
use Rattle.url_run.specs.Private.{marks_of, word_of, run_of}
use Rattle.url_run.proofs.Runs.{Run, run-of, run-whole, mark-flag, marks-next, marks-low, marks-high}
use Rattle.normalize_uri.specs.Url.{normalize_of}
use Rattle.normalize_uri.specs.Private.{part_of}
use Rattle.normalize_uri.proofs.Laws.{part-more, part-two, part-cons, block_more, block_last}
use Rattle.normalize_uri.proofs.Long.{part-long}

-- ---- bytes without a mark stay as they are

moved-part : (on : Escaping) (k : ℕ) (l : List ℕ) → marks_of k l ≡ zeros k → encode_of on (part_of k l) ≡ take k l
unfolding marks_of part_of encode_of
moved-part on zero l p = refl
moved-part on (suc k) [] p = refl
moved-part on (suc k) (b ∷ l) p =
    let m : mark_of b (get_or l 0 0) (get_or l 1 0) ≡ 0 = cc in
    let t : marks_of k l ≡ zeros k = cc in
    part-cons on k b l ∙ rw (moved-byte on b l m, moved-part on k l t)

-- a window
still_part : (on : Escaping) (n : ℕ) (l : List ℕ) → any is_apart (take n l) ≡ false → encode_of on (part_of n l) ≡ take n l
unfolding part_of encode_of
still_part on zero l p = refl
still_part on (suc n) [] p = refl
still_part on (suc n) (b ∷ l) p =
    part-cons on n b l
    ∙ rw (moved-byte on b l (still-moved b (get_or l 0 0) (get_or l 1 0) (or_left (is_apart b) (any is_apart (take n l)) p)), still_part on n l (or_right (is_apart b) (any is_apart (take n l)) p))

pub window : (on : Escaping) (i e : ℕ) (l : List ℕ) (x : Bool) → e ≡ i + 64 → (x ≡ true → any is_apart (take 64 (drop i l)) ≡ false) → x ≡ true
    → encode_of on (normalize_of (drop i l)) ≡ take (e - i) (drop i l) ++ encode_of on (normalize_of (drop (i + 64) l))
window on i e l x p q r =
    let k : e - i ≡ 64 = omega arith in
    let t : encode_of on (part_of 64 (drop i l)) ≡ take (e - i) (drop i l) = rw k (still_part on 64 (drop i l) (q r)) in
    block_more on l i 64 ∙ rw t

-- ---- eight bytes

pub shift-less : (l : List ℕ) (w k : ℕ) → w ≡ word_of (marks_of 8 l) → k ≡ run_of w → (w ≡ 0 → ⊥) → 8 * k < 64
shift-less l w k m q z = let t : k < 8 = (run-of l w k m q).less z in omega arith

module _ (on : Escaping) (l : List ℕ) (i e w : ℕ) (p : e ≡ i + 8) (m : w ≡ word_of (marks_of 8 (drop i l))) where
  eight : take (e - i) (drop i l) ≡ take 8 (drop i l)
  eight = let k : e - i ≡ 8 = omega arith in rw k

  pub eight-whole : {u v : Writer} → w ≡ 0 → WritesAhead (take 8 (take (e - i) (drop i l))) (8 - 8) u v → Writes (encode_of on (part_of 8 (drop i l))) u v
  eight-whole z a =
      let t : encode_of on (part_of 8 (drop i l)) ≡ take 8 (take (e - i) (drop i l)) = moved-part on 8 (drop i l) (run-whole (drop i l) w m z) ∙ sym (ap (take 8) eight ∙ take-take 8 8 (drop i l) (omega arith)) in
      by t (ahead-end (8 - 8) refl a)

  module _ (k : ℕ) (q : k ≡ run_of w) where
    run : Run 8 (drop i l) w k
    run = run-of (drop i l) w k m q

    pub rest-word : (from : ℕ) → from ≡ i + k → w / 2 ^ (8 * k) ≡ word_of (marks_of (e - from) (drop from l))
    rest-word from g =
        let s = run.short in
        let a : e - from ≡ 8 - k = omega arith in
        rw (a, g) (run.rest ∙ rw drop-drop)

    pub eight-run : {u v w : Writer} (from : ℕ) → from ≡ i + k → e ≤ length l → WritesAhead (take k (take (e - i) (drop i l))) (8 - k) u v
        → Writes (encode_of on (part_of (e - from) (drop from l))) v w → Writes (encode_of on (part_of 8 (drop i l))) u w
    eight-run from g h a x =
        let s = run.short in
        let b : e - from ≡ 8 - k = omega arith in
        let c : drop from l ≡ drop k (drop i l) = rw (g, drop-drop) in
        let y : 8 - k ≤ length (drop from l) = simp length-drop (omega arith) in
        let z : 8 - k ≤ length (encode_of on (part_of (e - from) (drop from l))) = rw b (part-long on (8 - k) (drop from l) y) in
        let u : take k (take (e - i) (drop i l)) ≡ take k (drop i l) = ap (take k) eight ∙ take-take k 8 (drop i l) s in
        let v : encode_of on (part_of 8 (drop i l)) ≡ take k (take (e - i) (drop i l)) ++ encode_of on (part_of (e - from) (drop from l)) = part-two on k 8 (drop i l) s ∙ ap₂ (λ (x : List ℕ) (y : List ℕ). x ++ y) (moved-part on k (drop i l) run.clear ∙ sym u) (rw (b, c)) in
        ahead_more v a z x

-- ---- the rest, by its marks

module _ (on : Escaping) (l : List ℕ) (i to w : ℕ) (h : i < to) (k : to ≤ length l) (p : w ≡ word_of (marks_of (to - i) (drop i l))) where
  parted : w ≡ mark_of (get_or l i 0) (get_or (drop (i + 1) l) 0 0) (get_or (drop (i + 1) l) 1 0) + word_of (marks_of (to - (i + 1)) (drop (i + 1) l)) * 256
  parted =
      let e : to - i ≡ suc (to - (i + 1)) = omega arith in
      let m : i < length l = omega arith in
      let n : drop i l ≡ get_or l i 0 ∷ drop (i + 1) l = next l i m in
      p ∙ rw (e, n) (marks-next (to - (i + 1)) (get_or l i 0 ∷ drop (i + 1) l))

  pub rest-marks : w / 256 ≡ word_of (marks_of (to - (i + 1)) (drop (i + 1) l))
  rest-marks =
      let q = parted in
      elim (mark-flag (get_or l i 0) (get_or (drop (i + 1) l) 0 0) (get_or (drop (i + 1) l) 1 0)) [
        | inl z ↦ omega arith
        | inr z ↦ omega arith
      ]

  mark-zero : w % 2 ≡ 0 → mark_of (get_or l i 0) (get_or (drop (i + 1) l) 0 0) (get_or (drop (i + 1) l) 1 0) ≡ 0
  mark-zero x =
      let q = parted in
      elim (mark-flag (get_or l i 0) (get_or (drop (i + 1) l) 0 0) (get_or (drop (i + 1) l) 1 0)) [
        | inl z ↦ z
        | inr z ↦ absurd (omega arith)
      ]

  mark-one : (w % 2 ≡ 0 → ⊥) → mark_of (get_or l i 0) (get_or (drop (i + 1) l) 0 0) (get_or (drop (i + 1) l) 1 0) ≡ 0 → ⊥
  mark-one x z = let q = parted in x (omega arith)

  pub rest-moved : w % 2 ≡ 0 → encode_of on (part_of (to - i) (drop i l)) ≡ (get_or l i 0 ∷ []) ++ encode_of on (part_of (to - (i + 1)) (drop (i + 1) l))
  rest-moved x =
      let m : i < length l = omega arith in
      let e : encode_of on (byte_of (drop i l)) ≡ get_or l i 0 ∷ [] = rw (next l i m) (moved-byte on (get_or l i 0) (drop (i + 1) l) (mark-zero x)) in
      part-more on l i to h k ∙ rw e

  pub rest-marked : (w % 2 ≡ 0 → ⊥) → encode_of on (part_of (to - i) (drop i l)) ≡ encode_of on (url_byte (between 38 39 (get_or l i 0)) (get_or l i 0)) ++ encode_of on (part_of (to - (i + 1)) (drop (i + 1) l))
  rest-marked x =
      let m : i < length l = omega arith in
      let e : encode_of on (byte_of (drop i l)) ≡ encode_of on (url_byte (between 38 39 (get_or l i 0)) (get_or l i 0)) = rw (next l i m) (marked-byte on (get_or l i 0) (drop (i + 1) l) (mark-one x)) in
      part-more on l i to h k ∙ rw e

-- ---- sixteen bytes, and the last

module _ (on : Escaping) (l : List ℕ) (i : ℕ) where
  pub halves : encode_of on (part_of 16 (drop i l)) ≡ encode_of on (part_of 8 (drop i l)) ++ encode_of on (part_of 8 (drop (i + 8) l))
  halves = part-two on 8 16 (drop i l) (omega arith) ∙ rw drop-drop

  pub halves-put : {u v w : Writer} → Writes (encode_of on (part_of 8 (drop i l))) u v → Writes (encode_of on (part_of 8 (drop (i + 8) l))) v w → Writes (encode_of on (part_of 16 (drop i l))) u w
  halves-put p q = by halves (then p q)

  pub tail-put : {u v w : Writer} → Writes (encode_of on (part_of 8 (drop i l))) u v → Writes (encode_of on (part_of (length l - (i + 8)) (drop (i + 8) l))) v w → Writes (encode_of on (normalize_of (drop i l))) u w
  tail-put p q = by (block_more on l i 8) (then p (by (block_last on l (i + 8)) q))

  pub halves-clear : (e v w : ℕ) → e ≡ i + 16 → v ≡ word_of (marks_of 8 (drop i l)) → w ≡ word_of (marks_of 8 (drop (i + 8) l)) → (eqb v 0 && eqb w 0) ≡ true
      → encode_of on (part_of 16 (drop i l)) ≡ take (e - i) (drop i l)
  halves-clear e v w p q r t =
      let k : e - i ≡ 16 = omega arith in
      let a : v ≡ 0 = eqb-true v 0 (and_left (eqb v 0) (eqb w 0) t) in
      let b : w ≡ 0 = eqb-true w 0 (and_right (eqb v 0) (eqb w 0) t) in
      let x : encode_of on (part_of 8 (drop i l)) ≡ take 8 (drop i l) = moved-part on 8 (drop i l) (run-whole (drop i l) v q a) in
      let y : encode_of on (part_of 8 (drop (i + 8) l)) ≡ take 8 (drop 8 (drop i l)) = moved-part on 8 (drop (i + 8) l) (run-whole (drop (i + 8) l) w r b) ∙ rw drop-drop in
      halves ∙ ap₂ (λ (s : List ℕ) (u : List ℕ). s ++ u) x y ∙ joined (drop i l) ∙ rw k
    where
      joined : (s : List ℕ) → take 8 s ++ take 8 (drop 8 s) ≡ take 16 s
      joined s = sym (take-add 8 8 s)

  -- sixteen marks, read as two words of eight
  module _ (s : List ℕ) (eights : List (List ℕ)) (w : ℕ) (p : s ≡ marks_of 16 (drop i l)) (q : eights ≡ first_chunks 8 (length s / 8) s) where
    pub block-low : w ≡ word_of (get_or eights 0 []) → w ≡ word_of (marks_of 8 (drop i l))
    unfolding marks_of
    block-low r = r ∙ rw (q, p) (ap word_of (marks-low (drop i l)))

    pub block-high : w ≡ word_of (get_or eights 1 []) → w ≡ word_of (marks_of 8 (drop (i + 8) l))
    unfolding marks_of
    block-high r = r ∙ rw (q, p) (ap word_of (marks-high (drop i l)) ∙ rw drop-drop)
