-- The laws of numbers in bytes, little endian, over every width. Assumes nothing.
use Rattle.std.proofs.Common.{w16, w32, w64, ◌≡◌, refl, sym, ap, ◌∙◌, List, [], ◌∷◌, ℕ, zero, suc, ◌+◌, ◌*◌, ◌/◌, ◌%◌, ◌^◌, ◌≤◌, ◌<◌, pow-suc, mul_comm, mul_assoc, zero-add, suc-add, div-lt_iff_lt-mul, arith, length, take, drop, get_or, length-drop, get_or-drop, drop-drop}
use Rattle.std.proofs.Math.Nat.{one-le-pow, mul-zero}
use Rattle.std.proofs.Math.Seq.{take-nil}
use Rattle.std.specs.Int.{from_le_bytes}
use Rattle.little.specs.Little.{little, number, field}

-- ---- reading

-- the first m bytes, and the n behind them
number-take : (m n : ℕ) (l : List ℕ) → number (take (m + n) l) ≡ number (take m l) + 256 ^ m * number (take n (drop m l))
unfolding number
number-take zero n l = rw zero-add (omega arith)
number-take (suc m) n [] = rw (take-nil, take-nil) (omega (arith, mul-zero (256 ^ suc m)))
number-take (suc m) n (x ∷ l) =
    let e : 256 ^ suc m * number (take n (drop m l)) ≡ 256 * (256 ^ m * number (take n (drop m l))) = rw (pow-suc, mul_comm (256 ^ m) 256, mul_assoc) in
    rw (suc-add, number-take m n l) (omega (arith, e))

-- a field of its two halves
pub halves : (m n at : ℕ) (l : List ℕ) {a b : ℕ} → a ≡ field at m l → b ≡ field (at + m) n l → a + 256 ^ m * b ≡ field at (m + n) l
halves m n at l p q = sym (number-take m n (drop at l) ∙ rw (drop-drop, p, q))

pub one_byte : (at : ℕ) (l : List ℕ) → get_or l at 0 ≡ field at 1 l
unfolding number
one_byte zero [] = refl
one_byte zero (x ∷ l) = omega arith
one_byte (suc at) [] = refl
one_byte (suc at) (x ∷ l) = one_byte at l

-- what the library's `from_le_bytes` makes of two, four and eight bytes
module _ (at : ℕ) (l : List ℕ) where
  abbrev byte : ℕ → ℕ
  byte k = get_or l (at + k) 0

  abbrev pair : ℕ → ℕ
  pair k = byte k + 256 ^ 1 * byte (k + 1)

  abbrev quad : ℕ → ℕ
  quad k = pair k + 256 ^ 2 * pair (k + 2)

  pair-is : (k : ℕ) → pair k ≡ field (at + k) 2 l
  pair-is k = let e : at + (k + 1) ≡ at + k + 1 = omega arith in halves 1 1 (at + k) l (one_byte (at + k) l) (rw e (one_byte (at + k + 1) l))

  quad-is : (k : ℕ) → quad k ≡ field (at + k) 4 l
  quad-is k = let e : at + (k + 2) ≡ at + k + 2 = omega arith in halves 2 2 (at + k) l (pair-is k) (pair-is (k + 2) ∙ ap (λ (x : ℕ). field x 2 l) e)

  pub two : at + 2 ≤ length l → from_le_bytes w16 (get_or l at 0 ∷ byte 1 ∷ []) ≡ field at 2 l
  two h = let z : at + 0 ≡ at = omega arith in omega (arith, rw z at (pair-is 0))

  pub four : at + 4 ≤ length l → from_le_bytes w32 (get_or l at 0 ∷ byte 1 ∷ byte 2 ∷ byte 3 ∷ []) ≡ field at 4 l
  four h = let z : at + 0 ≡ at = omega arith in omega (arith, rw z at (quad-is 0))

  pub eight : at + 8 ≤ length l → from_le_bytes w64 (get_or l at 0 ∷ byte 1 ∷ byte 2 ∷ byte 3 ∷ byte 4 ∷ byte 5 ∷ byte 6 ∷ byte 7 ∷ []) ≡ field at 8 l
  eight h = let z : at + 0 ≡ at = omega arith in omega (arith, halves 4 4 at l (rw z at (quad-is 0)) (quad-is 4))

-- bytes below 256 hold a number that fits
number-below : (n : ℕ) (l : List ℕ) → ((k : ℕ) → get_or l k 0 < 256) → number (take n l) < 256 ^ n
unfolding number
number-below zero l below = omega arith
number-below (suc n) [] below = one-le-pow (suc n) 256 (omega arith)
number-below (suc n) (x ∷ l) below =
    let b = below 0 in
    let h = number-below n l (λ k. below (suc k)) in
    rw pow-suc (omega arith)

pub field_below : (at n : ℕ) (l : List ℕ) → ((k : ℕ) → get_or l k 0 < 256) → field at n l < 256 ^ n
field_below at n l below = number-below n (drop at l) (λ k. rw get_or-drop (below (at + k)))

-- ---- writing and reading are inverse

pub length-little : (n x : ℕ) → length (little n x) ≡ n
unfolding little
length-little zero x = refl
length-little (suc n) x = ap suc (length-little n (x / 256))

-- where the number fits
pub number-little : (n x : ℕ) → x < 256 ^ n → number (little n x) ≡ x
unfolding little number
number-little zero x h = omega arith
number-little (suc n) x h =
    let p : 0 < 256 = omega arith in
    let k : x / 256 < 256 ^ n = (div-lt_iff_lt-mul p).1 (rw pow-suc at h) in
    rw (number-little n (x / 256) k) (omega arith)

-- where the bytes are below 256
little-take : (n : ℕ) (l : List ℕ) → n ≤ length l → ((k : ℕ) → get_or l k 0 < 256) → little n (number (take n l)) ≡ take n l
unfolding little number
little-take zero l h below = refl
little-take (suc n) [] h below = absurd (omega arith)
little-take (suc n) (x ∷ l) h below =
    let b = below 0 in
    let low : (x + 256 * number (take n l)) % 256 ≡ x = omega arith in
    let high : (x + 256 * number (take n l)) / 256 ≡ number (take n l) = omega arith in
    rw (low, high, little-take n l (omega arith) (λ k. below (suc k)))

pub little-field : (at n : ℕ) (l : List ℕ) → at + n ≤ length l → ((k : ℕ) → get_or l k 0 < 256) → little n (field at n l) ≡ take n (drop at l)
little-field at n l h below = little-take n (drop at l) (rw length-drop (omega arith)) (λ k. rw get_or-drop (below (at + k)))
