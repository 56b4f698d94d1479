-- What the code goes by in adding up the check: byte by byte, and part by part. Assumes nothing.
use Rattle.std.proofs.Common.{◌≡◌, List, [], ◌∷◌, ◌++◌, ℕ, suc, ◌+◌, ◌-◌, ◌*◌, ◌/◌, ◌≤◌, ◌<◌, arith, length, take, drop, get_or, length-take, length-drop, drop_of_length-le, take-append-drop, drop-drop, w8, w32, Fits}
use Rattle.lent.proofs.Laws.{next}
use Rattle.bundle_block.specs.Block.{weighed, check_of}
use Rattle.bundle_block.proofs.Words.{weighed-small}

-- ---- the sum so far, and what the bytes from a place on add to it

module _ (l : List ℕ) (p i sum total : ℕ) (q : sum + weighed p (drop i l) ≡ total) where
  pub weigh-one : {b : ℕ} → i < length l → b ≡ get_or l i 0 → sum + (p + 1) * b + weighed (p + 1) (drop (i + 1) l) ≡ total
  unfolding weighed
  weigh-one h r =
      let e : weighed p (drop i l) ≡ (p + 1) * get_or l i 0 + weighed (p + 1) (drop (i + 1) l) = rw (next l i h) in
      rw r (omega arith)

  pub weighed-fits : {b : ℕ} → i < length l → b ≡ get_or l i 0 → total < 4294967296 → Fits w32 (sum + (p + 1) * b)
  weighed-fits h r k = let e = weigh-one h r in omega arith

  pub weigh-end : length l ≤ i → sum ≡ total
  unfolding weighed
  weigh-end h = let e : weighed p (drop i l) ≡ 0 = rw (drop_of_length-le l h) in omega arith

-- ---- and what those up to another place add to it

pub weighed-append : (p : ℕ) (s t : List ℕ) → weighed p (s ++ t) ≡ weighed p s + weighed (p + length s) t
unfolding weighed
weighed-append p [] t = let e : p + 0 ≡ p = omega arith in rw e (omega arith)
weighed-append p (b ∷ s) t =
    let e : p + suc (length s) ≡ p + 1 + length s = omega arith in
    rw (e, weighed-append (p + 1) s t) (omega arith)

weigh-part : (l : List ℕ) (at end sum total : ℕ) {b : ℕ} → at ≤ end → end ≤ length l → sum + weighed at (drop at l) ≡ total → b ≡ weighed at (take (end - at) (drop at l))
    → sum + b + weighed end (drop end l) ≡ total
weigh-part l at end sum total h k q r =
    let n : at + (end - at) ≡ end = omega arith in
    let m : length (take (end - at) (drop at l)) ≡ end - at = simp (length-take, length-drop) (omega arith) in
    let d : drop (end - at) (drop at l) ≡ drop end l = rw (drop-drop, n) in
    let s : take (end - at) (drop at l) ++ drop end l ≡ drop at l = rw (← d) (take-append-drop (end - at) (drop at l)) in
    let w = weighed-append at (take (end - at) (drop at l)) (drop end l) in
    let e : weighed at (drop at l) ≡ weighed at (take (end - at) (drop at l)) + weighed end (drop end l) = rw (s, m, n) at w in
    rw r (omega arith)

-- ---- whole rows in parts, and the bytes behind them

pub check-fits : (l : List ℕ) → ((k : ℕ) → Fits w8 (get_or l k 0)) → length l ≤ 508 → check_of l < 4294967296
unfolding check_of
check-fits l p h = weighed-small 0 l p (omega arith)

pub weigh-none : (l : List ℕ) → 0 + weighed 0 (drop 0 l) ≡ check_of l
unfolding check_of
weigh-none l = omega arith

module _ (place sum total : ℕ) (rest part rest' : List ℕ) {b : ℕ} (e : rest ≡ part ++ rest') (q : sum + weighed place rest ≡ total) (r : b ≡ weighed place part) where
  pub part-weighed : sum + b + weighed (place + length part) rest' ≡ total
  part-weighed =
      let w = weighed-append place part rest' in
      let k : sum + weighed place (part ++ rest') ≡ total = rw e at q in
      rw r (omega arith)

  pub part-fits : total < 4294967296 → Fits w32 (sum + b)
  part-fits k = let w = part-weighed in omega arith

module _ (l : List ℕ) where
  pub rows-weighed : {b : ℕ} → b ≡ check_of (take (length l / 16 * 16 - 0) (drop 0 l)) → b + weighed (length l / 16 * 16) (drop (length l / 16 * 16) l) ≡ check_of l
  unfolding check_of
  rows-weighed r = let w = weigh-part l 0 (length l / 16 * 16) 0 (check_of l) (omega arith) (omega arith) (weigh-none l) r in omega arith
