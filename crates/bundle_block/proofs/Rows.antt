-- A row of sixteen bytes before others, and what it adds in lanes. Assumes nothing.
use Rattle.std.proofs.Common.{◌≡◌, List, [], ◌∷◌, ◌++◌, ℕ, zero, suc, ◌+◌, ◌*◌, ◌≤◌, add-mul, arith, length, take, drop, get_or, get_or-drop, w8, Fits}
use Rattle.bundle_block.specs.Block.{weighed}
use Rattle.bundle_block.specs.Lanes.{sum_of, added}
use Rattle.bundle_block.proofs.Check.{weighed-append}
use Rattle.bundle_block.proofs.Lanes.{sum_added, weighed-added}

sum-append : (s t : List ℕ) → sum_of (s ++ t) ≡ sum_of s + sum_of t
unfolding sum_of
sum-append [] t = omega arith
sum-append (b ∷ s) t = rw (sum-append s t) (omega arith)

-- a row further on, a byte counts sixteen more times
weighed-later : (p : ℕ) (s : List ℕ) → weighed (p + 16) s ≡ weighed p s + 16 * sum_of s
unfolding weighed sum_of
weighed-later p [] = omega arith
weighed-later p (b ∷ s) =
    let e : p + 16 + 1 ≡ p + 1 + 16 = omega arith in
    rw (e, weighed-later (p + 1) s, add-mul (p + 1) 16 b) (omega arith)

module _ (row rest all once by_row : List ℕ) (e : row ++ rest ≡ all) (h : length row ≡ 16) (p : length once ≡ 16) (s : sum_of once ≡ sum_of rest) where
  pub row-sums : sum_of (added once row) ≡ sum_of all
  row-sums = rw (← e, sum_added once row (omega arith), sum-append) (omega arith)

  pub row-weighs : (place : ℕ) → length by_row ≡ 16 → weighed place once + 16 * sum_of by_row ≡ weighed place rest
      → weighed place (added once row) + 16 * sum_of (added by_row once) ≡ weighed place all
  row-weighs place q w =
      rw (← e, weighed-added place once row (omega arith), sum_added by_row once (omega arith), weighed-append, h, weighed-later) (omega arith)

take-most : (n : ℕ) (l : List ℕ) (k : ℕ) → get_or (take n l) k 0 ≤ get_or l k 0
take-most zero l k = omega arith
take-most (suc n) [] k = omega arith
take-most (suc n) (b ∷ l) zero = omega arith
take-most (suc n) (b ∷ l) (suc k) = take-most n l k

pub row-byte : (rows : List ℕ) → ((k : ℕ) → Fits w8 (get_or rows k 0)) → (n i k : ℕ) → get_or (take n (drop i rows)) k 0 ≤ 255
row-byte rows bytes n i k = omega (arith, take-most n (drop i rows) k, get_or-drop i rows k 0, bytes (i + k))
