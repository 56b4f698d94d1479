-- Numbers in bytes and back, and what holds of each byte of a list. Assumes nothing.
use Rattle.std.proofs.Common.{◌≡◌, refl, Bool, true, ◌&&◌, List, [], ◌∷◌, ◌++◌, ℕ, zero, suc, ◌+◌, ◌*◌, ◌/◌, ◌%◌, ◌^◌, ◌≤◌, ◌<◌, pow-suc, mul-le-mul, arith, ltb-true, lt-ltb, eqb-true, length, take, drop, get_or, w8, Fits}
use Rattle.lent.specs.Bytes.{all}
use Rattle.lent.specs.Fill.{zeros}
use Rattle.lent.proofs.Laws.{and_left, and_right}
use Rattle.bundle_block.specs.Block.{is_byte, little, number, weighed, check_of, is_zero}

-- ---- what holds of each byte

both : {a b : Bool} → a ≡ true → b ≡ true → (a && b) ≡ true
both p q = rw (p, q)

module _ (f : ℕ → Bool) where
  pub all_append : (s t : List ℕ) → all f s ≡ true → all f t ≡ true → all f (s ++ t) ≡ true
  all_append [] t p q = q
  all_append (b ∷ s) t p q = both (and_left (f b) (all f s) p) (all_append s t (and_right (f b) (all f s) p) q)

  pub all_take : (n : ℕ) (l : List ℕ) → all f l ≡ true → all f (take n l) ≡ true
  all_take zero l p = refl
  all_take (suc n) [] p = refl
  all_take (suc n) (b ∷ l) p = both (and_left (f b) (all f l) p) (all_take n l (and_right (f b) (all f l) p))

  pub all_drop : (n : ℕ) (l : List ℕ) → all f l ≡ true → all f (drop n l) ≡ true
  all_drop zero l p = p
  all_drop (suc n) [] p = refl
  all_drop (suc n) (b ∷ l) p = all_drop n l (and_right (f b) (all f l) p)

  pub all-zeros : f 0 ≡ true → (n : ℕ) → all f (zeros n) ≡ true
  all-zeros p zero = refl
  all-zeros p (suc n) = both p (all-zeros p n)

bytes-known : (l : List ℕ) → ((k : ℕ) → Fits w8 (get_or l k 0)) → all is_byte l ≡ true
bytes-known [] p = refl
bytes-known (b ∷ l) p = both (lt-ltb b 256 (omega (arith, p 0))) (bytes-known l (λ k. p (suc k)))

pub zeros-alone : (l : List ℕ) → all is_zero l ≡ true → l ≡ zeros (length l)
zeros-alone [] p = refl
zeros-alone (b ∷ l) p =
    let z = eqb-true b 0 (and_left (is_zero b) (all is_zero l) p) in
    rw (z, ← zeros-alone l (and_right (is_zero b) (all is_zero l) p))

-- ---- numbers

pub bytes-little : (n x : ℕ) → all is_byte (little n x) ≡ true
unfolding little
bytes-little zero x = refl
bytes-little (suc n) x = both (lt-ltb (x % 256) 256 (omega arith)) (bytes-little n (x / 256))

pub little-number : (l : List ℕ) → all is_byte l ≡ true → little (length l) (number l) ≡ l
unfolding little number
little-number [] p = refl
little-number (b ∷ l) p =
    let k = ltb-true b 256 (and_left (is_byte b) (all is_byte l) p) in
    let r : (b + 256 * number l) % 256 ≡ b = omega arith in
    let q : (b + 256 * number l) / 256 ≡ number l = omega arith in
    rw (r, q, little-number l (and_right (is_byte b) (all is_byte l) p))

pub number_small : (l : List ℕ) → all is_byte l ≡ true → number l < 256 ^ length l
unfolding number
number_small [] p = omega arith
number_small (b ∷ l) p =
    let k = ltb-true b 256 (and_left (is_byte b) (all is_byte l) p) in
    let i = number_small l (and_right (is_byte b) (all is_byte l) p) in
    let e = pow-suc 256 (length l) in
    omega arith

-- ---- the check fits four bytes

weight-most : (w b : ℕ) → w ≤ 508 → b < 256 → w * b ≤ 129540
weight-most w b h k = let j : b ≤ 255 = omega arith in mul-le-mul h j

weighed-most : (at : ℕ) (l : List ℕ) → all is_byte l ≡ true → at + length l ≤ 508 → weighed at l ≤ 129540 * length l
unfolding weighed
weighed-most at [] p h = omega arith
weighed-most at (b ∷ l) p h =
    let k = ltb-true b 256 (and_left (is_byte b) (all is_byte l) p) in
    let m = weight-most (at + 1) b (omega arith) k in
    let i = weighed-most (at + 1) l (and_right (is_byte b) (all is_byte l) p) (omega arith) in
    omega arith

pub weighed-small : (at : ℕ) (l : List ℕ) → ((k : ℕ) → Fits w8 (get_or l k 0)) → at + length l ≤ 508 → weighed at l < 4294967296
weighed-small at l p h = let m = weighed-most at l (bytes-known l p) h in omega arith

pub check-small : (l : List ℕ) → all is_byte l ≡ true → length l ≡ 508 → check_of l < 256 ^ 4
unfolding check_of
check-small l p h = let m = weighed-most 0 l p (omega arith) in omega arith
