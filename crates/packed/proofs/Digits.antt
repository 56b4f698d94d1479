-- One digit of a word read, and another put in its place. Assumes nothing.
use Rattle.std.proofs.Common.{◌≡◌, sym, ap, ◌∙◌, ℕ, ◌+◌, ◌-◌, ◌*◌, ◌/◌, ◌%◌, ◌^◌, ◌≤◌, ◌<◌, mod-lt, mod-eq_of_lt, add-mul, arith, bit_and, pow_pos, pow-add, shl_exact, shr_lt, shr-shr}
use Rattle.std.proofs.Math.Decide.{dec_le}
use Rattle.std.proofs.Math.Arith.{digits_lt, lt_of_le-ne}
use lib.Bits.{and_mask}
use Rattle.std.proofs.Math.Pow.{split, high, low, field, mod-mod-pow}
use Rattle.packed.specs.Word.{digit_of, Placed}

-- ---- read

pub digit-is : (k w : ℕ) → bit_and (w / 2 ^ (2 * k)) 3 ≡ digit_of k w
unfolding digit_of
digit-is k w = and_mask (w / 2 ^ (2 * k)) 2

-- a digit below k is one of the low part, and one above is one of the high part
below : (j k w : ℕ) → j < k → digit_of j w ≡ digit_of j (w % 2 ^ (2 * k))
unfolding digit_of
below j k w h =
    let n = 2 * k - (2 + 2 * j) in
    let e : n + (2 + 2 * j) ≡ 2 * k = omega arith in
    let m : w % 2 ^ (2 * k) % 2 ^ (2 + 2 * j) ≡ w % 2 ^ (2 + 2 * j) = rw e at (mod-mod-pow w n (2 + 2 * j)) in
    sym (field w 2 (2 * j)) ∙ ap (λ (x : ℕ). x / 2 ^ (2 * j)) (sym m) ∙ field (w % 2 ^ (2 * k)) 2 (2 * j)

above : (j k w : ℕ) → k < j → digit_of j w ≡ w / 2 ^ (2 * k) / 4 / 2 ^ (2 * j - (2 * k + 2)) % 4
unfolding digit_of
above j k w h =
    let n = 2 * j - (2 * k + 2) in
    let e : 2 * k + 2 + n ≡ 2 * j = omega arith in
    let m : w / 2 ^ (2 * k) / 2 ^ 2 / 2 ^ n ≡ w / 2 ^ (2 * j) = rw (shr-shr w (2 * k) 2, shr-shr w (2 * k + 2) n, e) in
    ap (λ (x : ℕ). x % 4) (sym m)

-- ---- put

abbrev unit : (k : ℕ) → ℕ
unit k = 2 ^ (2 * k)

-- what stands above the digit at k
abbrev rest : (k w : ℕ) → ℕ
rest k w = w / unit k / 4

-- with x for the digit at k
abbrev put : (k x w : ℕ) → ℕ
put k x w = (rest k w * 4 + x) * unit k + w % unit k

module _ (k x w : ℕ) (small : x < 4) where
  put-high : put k x w / unit k ≡ rest k w * 4 + x
  put-high = high (rest k w * 4 + x) (2 * k) (mod-lt w (pow_pos (2 * k)))

  put_low : put k x w % unit k ≡ w % unit k
  put_low = low (rest k w * 4 + x) (2 * k) (mod-lt w (pow_pos (2 * k)))

  placed : Placed k x w (put k x w)
  unfolding digit_of
  placed = record { here = rw put-high (low (rest k w) 2 small); others = λ j n. on j n (dec_le k j) }
    where
      on : (j : ℕ) → (j ≡ k → ⊥) → Dec (k ≤ j) → digit_of j (put k x w) ≡ digit_of j w
      on j n (yes l) =
          let m : k < j = lt_of_le-ne l (λ e. n (sym e)) in
          let e : rest k (put k x w) ≡ rest k w = rw put-high (high (rest k w) 2 small) in
          above j k (put k x w) m ∙ ap (λ (y : ℕ). y / 2 ^ (2 * j - (2 * k + 2)) % 4) e ∙ sym (above j k w m)
      on j n (no l) = let m : j < k = omega arith in below j k (put k x w) m ∙ ap (digit_of j) put_low ∙ sym (below j k w m)

-- ---- in a word of 64 bits

module _ (k x w : ℕ) (place : k < 32) (small : x < 4) (word : w < 2 ^ 64) where
  parts : w ≡ rest k w * 4 * unit k + digit_of k w * unit k + w % unit k
  unfolding digit_of
  parts = sym (split w (2 * k)) ∙ ap (λ (y : ℕ). y * unit k + w % unit k) (sym (split (w / unit k) 2)) ∙ ap (λ (y : ℕ). y + w % unit k) (add-mul (rest k w * 4) (w / unit k % 4) (unit k))

  put-fits : put k x w < 2 ^ 64
  put-fits =
      let e : 64 - 2 * k + 2 * k ≡ 64 = omega arith in
      let f : 62 - 2 * k + 2 ≡ 64 - 2 * k = omega arith in
      let n : w / unit k < 2 ^ (64 - 2 * k) = shr_lt (64 - 2 * k) (2 * k) (rw e word) in
      let m : rest k w < 2 ^ (62 - 2 * k) = shr_lt (62 - 2 * k) 2 (rw f n) in
      let l : rest k w * 4 + x < 2 ^ (64 - 2 * k) = rw (← f, pow-add 2 (62 - 2 * k) 2) (digits_lt m small) in
      let r = digits_lt l (mod-lt w (pow_pos (2 * k))) in
      rw (← pow-add 2 (64 - 2 * k) (2 * k), e) at r

  module _ {d : ℕ} (old : d ≡ digit_of k w) where
    taken_out : d * unit k % 2 ^ 64 ≡ digit_of k w * unit k
    taken_out = let m = parts in let l : digit_of k w * unit k < 2 ^ 64 = omega arith in rw old (mod-eq_of_lt l)

    replaced : w - d * unit k % 2 ^ 64 + x * unit k % 2 ^ 64 ≡ put k x w
    replaced = let m = parts in let t = taken_out in let i = shl_exact 2 (2 * k) 64 small (omega arith) in let a = add-mul (rest k w * 4) x (unit k) in omega arith

    pub is-there : d * unit k % 2 ^ 64 ≤ w
    is-there = let m = parts in let t = taken_out in omega arith

    pub still-fits : w - d * unit k % 2 ^ 64 + x * unit k % 2 ^ 64 < 2 ^ 64
    still-fits = rw replaced put-fits

    pub places : Placed k x w (w - d * unit k % 2 ^ 64 + x * unit k % 2 ^ 64)
    places = rw replaced (placed k x w small)
