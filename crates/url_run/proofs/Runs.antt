-- The run before the first mark, and the marks behind it: what the lowest bit of a word says. Assumes nothing.
use Rattle.std.proofs.Common.{if◌then◌else◌, ◌≡◌, refl, sym, ap, ◌∙◌, Bool, true, false, not, ◌&&◌, ◌⊎◌, inl, inr, List, ℕ, zero, suc, ◌+◌, ◌-◌, ◌*◌, ◌/◌, ◌%◌, ◌^◌, ◌≤◌, ◌<◌, div-one, arith, eqb, take, drop, get_or, pow-add, drop-drop}
use native.Mathlib.Nat.{mul-div-mul_right}
use lib.Count.{count_trailing_zeros, trailing_of_zero}
use Rattle.lent.specs.Bytes.{is_alnum}
use Rattle.lent.specs.Fill.{zeros}
use Rattle.url_byte.specs.Private.{is_apart, mark_of}
use Rattle.url_run.specs.Private.{marks_of, word_of, run_of}

-- ---- zeros at a number's low end

even : (k m : ℕ) → count_trailing_zeros (suc k) (m * 2) ≡ suc (count_trailing_zeros k m)
unfolding count_trailing_zeros
even k m =
    let p : m * 2 % 2 ≡ 0 = omega arith in
    let q : m * 2 / 2 ≡ m = omega arith in
    rw (p, q)

odd : (k m : ℕ) → m % 2 ≡ 1 → count_trailing_zeros (suc k) m ≡ 0
unfolding count_trailing_zeros
odd k m p = rw p

zero-byte : (k m : ℕ) → count_trailing_zeros (k + 8) (m * 256) ≡ count_trailing_zeros k m + 8
zero-byte k m =
    let a : k + 8 ≡ suc (suc (suc (suc (suc (suc (suc (suc k))))))) = omega arith in
    let e : m * 256 ≡ m * 2 * 2 * 2 * 2 * 2 * 2 * 2 * 2 = omega arith in
    rw (a, e, even, even, even, even, even, even, even, even) (omega arith)

no_bits : (m : ℕ) → count_trailing_zeros 0 m ≡ 0
unfolding count_trailing_zeros
no_bits m = refl

-- ---- the run

-- of the n marks of l, as the word w, the first k are 0, and k is less than n unless all are
pub record Run (n : ℕ) (l : List ℕ) (w k : ℕ) : Type 0 where
  pub clear : marks_of k l ≡ zeros k
  pub short : k ≤ n
  pub rest : w / 2 ^ (8 * k) ≡ word_of (marks_of (n - k) (drop k l))
  pub less : (w ≡ 0 → ⊥) → k < n

flag : (x : Bool) → (◌≡◌ {A = ℕ} (if x then 1 else 0) 0) ⊎ (◌≡◌ {A = ℕ} (if x then 1 else 0) 1)
flag true = inr refl
flag false = inl refl

pub mark-flag : (b c d : ℕ) → (mark_of b c d ≡ 0) ⊎ (mark_of b c d ≡ 1)
unfolding mark_of
mark-flag b c d = flag (is_apart b && not (eqb b 37 && (is_alnum c && is_alnum d)))

module _ (n : ℕ) (l : List ℕ) (w k : ℕ) where
  longer : mark_of (get_or l 0 0) (get_or l 1 0) (get_or l 2 0) ≡ 0 → Run n (drop 1 l) w k → Run (suc n) l (w * 256) (suc k)
  unfolding marks_of
  longer p r =
      let s = r.short in
      let g : 8 * suc k ≡ 8 * k + 8 = omega arith in
      let e : 2 ^ (8 * suc k) ≡ 2 ^ (8 * k) * 256 = rw g (pow-add 2 (8 * k) 8) in
      let a : suc n - suc k ≡ n - k = omega arith in
      let b : 1 + k ≡ suc k = omega arith in
      let d : drop k (drop 1 l) ≡ drop (suc k) l = rw (drop-drop, b) in
      let z : w * 256 / (2 ^ (8 * k) * 256) ≡ w / 2 ^ (8 * k) = mul-div-mul_right w (2 ^ (8 * k)) (omega arith) in
      record {
        clear = rw (p, r.clear);
        short = omega arith;
        rest = rw (e, a, ← d) (z ∙ r.rest);
        less = λ u. let v : k < n = r.less (λ y. u (omega arith)) in omega arith;
      }

  none : w ≡ word_of (marks_of (suc n) l) → Run (suc n) l w 0
  unfolding marks_of
  none p =
      let z : suc n - 0 ≡ suc n = omega arith in
      record { clear = refl; short = omega arith; rest = rw z (div-one w ∙ p); less = λ u. omega arith }

runs : (n : ℕ) (l : List ℕ) → Run n l (word_of (marks_of n l)) (count_trailing_zeros (8 * n) (word_of (marks_of n l)) / 8)
unfolding marks_of word_of
runs zero l = rw (no_bits 0) (record { clear = refl; short = omega arith; rest = refl; less = λ u. absurd (u refl) })
runs (suc n) l =
    let v : ℕ = word_of (marks_of n (drop 1 l)) in
    let g : 8 * suc n ≡ 8 * n + 8 = omega arith in
    let h : 8 * suc n ≡ suc (8 * n + 7) = omega arith in
    elim (mark-flag (get_or l 0 0) (get_or l 1 0) (get_or l 2 0)) [
      | inl p ↦
          let t : ℕ = count_trailing_zeros (8 * n) v in
          let a : 0 + v * 256 ≡ v * 256 = omega arith in
          let b : (t + 8) / 8 ≡ suc (t / 8) = omega arith in
          rw (p, a, g, zero-byte (8 * n) v, b) (longer n l v (t / 8) p (runs n (drop 1 l)))
      | inr p ↦
          let o : (1 + v * 256) % 2 ≡ 1 = omega arith in
          let y : 1 + v * 256 ≡ word_of (marks_of (suc n) l) = rw p in
          rw (p, h, odd (8 * n + 7) (1 + v * 256) o) (none n l (1 + v * 256) 0 y)
    ]

pub run-of : (l : List ℕ) (w k : ℕ) → w ≡ word_of (marks_of 8 l) → k ≡ run_of w → Run 8 l w k
unfolding run_of
run-of l w k p q = rw (q, p) (runs 8 l)

-- no mark at all
pub run-whole : (l : List ℕ) (w : ℕ) → w ≡ word_of (marks_of 8 l) → w ≡ 0 → marks_of 8 l ≡ zeros 8
run-whole l w p q =
    let t : count_trailing_zeros 64 (word_of (marks_of 8 l)) / 8 ≡ 8 = rw (sym p ∙ q, trailing_of_zero) in
    rw t at (runs 8 l).clear

-- marks beside each other
pub marks-next : (n : ℕ) (l : List ℕ) → word_of (marks_of (suc n) l) ≡ mark_of (get_or l 0 0) (get_or l 1 0) (get_or l 2 0) + word_of (marks_of n (drop 1 l)) * 256
unfolding marks_of word_of
marks-next n l = refl

pub marks-low : (l : List ℕ) → take 8 (marks_of 16 l) ≡ marks_of 8 l
unfolding marks_of
marks-low l = refl

pub marks-high : (l : List ℕ) → take 8 (drop 8 (marks_of 16 l)) ≡ marks_of 8 (drop 8 l)
unfolding marks_of
marks-high l =
    let e : drop 1 (drop 1 (drop 1 (drop 1 (drop 1 (drop 1 (drop 1 (drop 1 l))))))) ≡ drop 8 l = simp drop-drop in
    ap (marks_of 8) e
