-- What the code of `url_run` goes by: the two tests of many bytes, their marks, and eight marks in a word. Assumes nothing.
use Rattle.std.proofs.Common.{◌≡◌, refl, sym, ap, ◌∙◌, ◌-◌, Bool, true, false, not, ◌||◌, ◌⊎◌, inl, inr, List, [], ◌∷◌, ◌++◌, ℕ, zero, suc, ◌+◌, ◌*◌, ◌≤◌, ◌<◌, arith, add-one, leb-true, le-leb, leb, eqb, length, take, drop, set, get_or, drop_of_length-le, take-suc-set, get_or-drop, w64}
use borrow.Author.Tests.{not-true, not-false}
use Rattle.std.specs.Int.{from_le_bytes}
use Rattle.lent.specs.Bytes.{any, between}
use Rattle.lent.proofs.Laws.{next, and_left, and_right, or_left, or_right}
use Rattle.url_byte.specs.Private.{is_apart, mark_of}
use Rattle.url_run.specs.Private.{is_odd, marks_of, word_of}

-- ---- what the cheap test lets pass is not apart

or_l : (x y : Bool) → x ≡ true → (x || y) ≡ true
or_l x y p = rw p

or_r : (x y : Bool) → y ≡ true → (x || y) ≡ true
or_r true y p = refl
or_r false y p = p

three : (p q r : Bool) → (p || q || r) ≡ true → (p ≡ true) ⊎ ((q ≡ true) ⊎ (r ≡ true))
three true q r h = inl refl
three false true r h = inr (inl refl)
three false false r h = inr (inr h)

wider : (b : ℕ) → between 65 90 b ≡ true → between 63 90 b ≡ true
wider b p =
    let k : 63 ≤ b = omega (arith, leb-true 65 b (and_left (leb 65 b) (leb b 90) p)) in
    rw (le-leb 63 b k) (and_right (leb 65 b) (leb b 90) p)

module _ (b : ℕ) where
  passed : is_odd b ≡ false → not (is_apart b) ≡ true
  passed h =
      elim (three (between 40 59 b) (between 65 90 b) (between 97 122 b) (not-false _ h)) [
        | inl p ↦ back (or_l _ _ (or_l _ _ (or_l _ _ (or_l _ _ (or_l _ _ (or_r (eqb b 33 || eqb b 35 || eqb b 36) _ p))))))
        | inr q ↦
            elim q [
              | inl p ↦ back (or_l _ _ (or_l _ _ (or_l _ _ (or_r (eqb b 33 || eqb b 35 || eqb b 36 || between 40 59 b || eqb b 61) _ (wider b p)))))
              | inr p ↦ back (or_l _ _ (or_r (eqb b 33 || eqb b 35 || eqb b 36 || between 40 59 b || eqb b 61 || between 63 90 b || eqb b 95) _ p))
            ]
      ]
    where
      back : {x : Bool} → x ≡ true → not (not x) ≡ true
      back e = rw e

any-odd : (s : List ℕ) → any is_odd s ≡ false → any is_apart s ≡ false
any-odd [] h = refl
any-odd (b ∷ s) h = rw (not-true (is_apart b) (passed b (or_left (is_odd b) (any is_odd s) h))) (any-odd s (or_right (is_odd b) (any is_odd s) h))

module _ (l : List ℕ) (i : ℕ) (x : Bool) where
  window : take (i + 64 - i) (drop i l) ≡ take 64 (drop i l)
  window = let e : i + 64 - i ≡ 64 = omega arith in rw e

  pub cheap : x ≡ any is_odd (take (i + 64 - i) (drop i l)) → x ≡ false → true ≡ true → any is_apart (take 64 (drop i l)) ≡ false
  cheap p q r = any-odd (take 64 (drop i l)) (sym (rw window at p) ∙ q)

  pub exact : x ≡ any is_apart (take (i + 64 - i) (drop i l)) → not x ≡ true → any is_apart (take 64 (drop i l)) ≡ false
  exact p q = sym (rw window at p) ∙ not-true x q

-- ---- the marks, one by one

marks-more : (k : ℕ) (l : List ℕ) → marks_of (suc k) l ≡ marks_of k l ++ mark_of (get_or l k 0) (get_or l (k + 1) 0) (get_or l (k + 2) 0) ∷ []
unfolding marks_of
marks-more zero l = refl
marks-more (suc k) l =
    let a : 1 + k ≡ suc k = omega arith in
    let b : 1 + (k + 1) ≡ suc k + 1 = omega arith in
    let c : 1 + (k + 2) ≡ suc k + 2 = omega arith in
    let e : mark_of (get_or (drop 1 l) k 0) (get_or (drop 1 l) (k + 1) 0) (get_or (drop 1 l) (k + 2) 0) ≡ mark_of (get_or l (suc k) 0) (get_or l (suc k + 1) 0) (get_or l (suc k + 2) 0) = rw (get_or-drop 1 l k 0, get_or-drop 1 l (k + 1) 0, get_or-drop 1 l (k + 2) 0, a, b, c) in
    ap (λ (s : List ℕ). mark_of (get_or l 0 0) (get_or l 1 0) (get_or l 2 0) ∷ s) (marks-more k (drop 1 l) ∙ rw e)

module _ (l : List ℕ) (i k : ℕ) (ms : List ℕ) where
  pub mark-more : (v : ℕ) → k < length ms → v ≡ mark_of (get_or l (i + k) 0) (get_or l (i + k + 1) 0) (get_or l (i + k + 2) 0) → take k ms ≡ marks_of k (drop i l)
      → take (k + 1) (set ms k v) ≡ marks_of (k + 1) (drop i l)
  mark-more v h p q =
      let b : i + (k + 1) ≡ i + k + 1 = omega arith in
      let c : i + (k + 2) ≡ i + k + 2 = omega arith in
      let e : v ≡ mark_of (get_or (drop i l) k 0) (get_or (drop i l) (k + 1) 0) (get_or (drop i l) (k + 2) 0) = rw (get_or-drop i l k 0, get_or-drop i l (k + 1) 0, get_or-drop i l (k + 2) 0, b, c) p in
      rw (add-one, take-suc-set ms k v h, marks-more k (drop i l), q, e)

-- ---- a word

word_next : (l : List ℕ) (i : ℕ) → i < length l → word_of (drop i l) ≡ get_or l i 0 + word_of (drop (i + 1) l) * 256
unfolding word_of
word_next l i h = rw (next l i h)

word_none : (l : List ℕ) (i : ℕ) → length l ≤ i → word_of (drop i l) ≡ 0
unfolding word_of
word_none l i h = rw (drop_of_length-le l h)

pub word-of : (l : List ℕ) (x : ℕ) → length l ≡ 8 → x ≡ from_le_bytes w64 l → x ≡ word_of l
word-of l x h p =
    let a = word_next l 0 (omega arith) in
    let b = word_next l 1 (omega arith) in
    let c = word_next l 2 (omega arith) in
    let d = word_next l 3 (omega arith) in
    let e = word_next l 4 (omega arith) in
    let f = word_next l 5 (omega arith) in
    let g = word_next l 6 (omega arith) in
    let i = word_next l 7 (omega arith) in
    let j = word_none l 8 (omega arith) in
    omega arith
