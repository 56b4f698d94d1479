-- What the code goes by in adding to lanes, and in adding lanes up. Assumes nothing.
use Rattle.std.proofs.Common.{◌≡◌, refl, ap, List, [], ◌∷◌, ℕ, zero, suc, ◌+◌, ◌≤◌, ◌<◌, add-zero, mul-add, add-one, arith, length, take, drop, get_or, set, drop_of_length-le, w16, w32, Fits}
use Rattle.std.proofs.Math.Seq.{set-get_or}
use Rattle.lent.proofs.Laws.{next}
use Rattle.bundle_block.specs.Block.{weighed}
use Rattle.bundle_block.specs.Lanes.{sum_of, added}

pub behind : (l : List ℕ) (n i : ℕ) → length l ≡ n → n ≤ i → length l ≤ i
behind l n i p h = omega arith

-- ---- adding, lane by lane

added-ahead : (l r : List ℕ) (i : ℕ) → get_or (added l (take i r)) i 0 ≡ get_or l i 0
unfolding added
added-ahead l r zero = refl
added-ahead l [] (suc i) = refl
added-ahead [] (b ∷ r) (suc i) = refl
added-ahead (a ∷ l) (b ∷ r) (suc i) = added-ahead l r i

added_next : (l r : List ℕ) (i : ℕ) → set (added l (take i r)) i (get_or l i 0 + get_or r i 0) ≡ added l (take (suc i) r)
unfolding added
added_next [] [] zero = refl
added_next (a ∷ l) [] zero = rw add-zero
added_next [] (b ∷ r) zero = refl
added_next (a ∷ l) (b ∷ r) zero = refl
added_next l [] (suc i) = rw (add-zero, set-get_or l (suc i) 0)
added_next [] (b ∷ r) (suc i) = refl
added_next (a ∷ l) (b ∷ r) (suc i) = ap (λ (x : List ℕ). (a + b) ∷ x) (added_next l r i)

module _ (l r m : List ℕ) (i : ℕ) (p : m ≡ added l (take i r)) where
  lane-kept : get_or m i 0 ≡ get_or l i 0
  lane-kept = rw p (added-ahead l r i)

  pub lane-fits : {b : ℕ} → b ≡ get_or r i 0 → ((k : ℕ) → get_or l k 0 + get_or r k 0 < 65536) → Fits w16 (get_or m i 0 + b)
  lane-fits q h = rw (q, lane-kept) (let j = h i in omega arith)

  pub lane-added : {b : ℕ} → b ≡ get_or r i 0 → set m i (get_or m i 0 + b) ≡ added l (take (i + 1) r)
  lane-added q = rw (q, lane-kept, p, add-one) (added_next l r i)

-- ---- the sum of lanes

module _ (l : List ℕ) (i sum total : ℕ) (q : sum + sum_of (drop i l) ≡ total) where
  pub sum_one : {b : ℕ} → i < length l → b ≡ get_or l i 0 → sum + b + sum_of (drop (i + 1) l) ≡ total
  unfolding sum_of
  sum_one h r = let e : sum_of (drop i l) ≡ get_or l i 0 + sum_of (drop (i + 1) l) = rw (next l i h) in omega arith

  pub sum_fits : {b : ℕ} → i < length l → b ≡ get_or l i 0 → total < 4294967296 → Fits w32 (sum + b)
  sum_fits h r k = let e = sum_one h r in omega arith

  pub sum-end : length l ≤ i → sum ≡ total
  unfolding sum_of
  sum-end h = let e : sum_of (drop i l) ≡ 0 = rw (drop_of_length-le l h) in omega arith

-- ---- what adding to lanes comes to

pub length-added : (l r : List ℕ) → length (added l r) ≡ length l
unfolding added
length-added l [] = refl
length-added [] (b ∷ r) = refl
length-added (a ∷ l) (b ∷ r) = ap suc (length-added l r)

pub added-most : (l r : List ℕ) (k : ℕ) → get_or (added l r) k 0 ≤ get_or l k 0 + get_or r k 0
unfolding added
added-most l [] k = omega arith
added-most [] (b ∷ r) k = omega arith
added-most (a ∷ l) (b ∷ r) zero = omega arith
added-most (a ∷ l) (b ∷ r) (suc k) = added-most l r k

pub sum_added : (l r : List ℕ) → length r ≤ length l → sum_of (added l r) ≡ sum_of l + sum_of r
unfolding added sum_of
sum_added l [] h = omega arith
sum_added [] (b ∷ r) h = absurd (omega arith)
sum_added (a ∷ l) (b ∷ r) h = rw (sum_added l r (omega arith)) (omega arith)

pub weighed-added : (p : ℕ) (l r : List ℕ) → length r ≤ length l → weighed p (added l r) ≡ weighed p l + weighed p r
unfolding added weighed
weighed-added p l [] h = omega arith
weighed-added p [] (b ∷ r) h = absurd (omega arith)
weighed-added p (a ∷ l) (b ∷ r) h = rw (mul-add (p + 1) a b, weighed-added (p + 1) l r (omega arith)) (omega arith)
