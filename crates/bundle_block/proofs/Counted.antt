-- What the code goes by in adding up rows in lanes, from the last row to the first. Assumes nothing.
use Rattle.std.proofs.Common.{min, sym, ap, length-append, take_at, drop_at, take-take, ◌≡◌, refl, ◌∙◌, List, ◌++◌, ℕ, zero, suc, ◌+◌, ◌-◌, ◌*◌, ◌%◌, ◌≤◌, ◌<◌, arith, length, take, drop, get_or, length-take, length-drop, take-append-drop, drop-drop, w8, w32, Fits}
use Rattle.bundle_block.proofs.Block.{drop-take}
use Rattle.std.proofs.Math.Seq.{drop-length}
use Rattle.lent.specs.Fill.{zeros}
use Rattle.bundle_block.specs.Block.{weighed}
use Rattle.bundle_block.specs.Lanes.{sum_of, added}
use Rattle.bundle_block.proofs.Lanes.{length-added, added-most}
use Rattle.bundle_block.proofs.Rows.{row-sums, row-weighs, row-byte}

-- the bytes from `at` on: each once in its lane, and as often as there are rows from `at` to its own
pub record Counted (rows : List ℕ) (place at : ℕ) (once by_row : List ℕ) : Type 0 where
  pub within : at ≤ length rows
  pub whole : at % 16 ≡ 0
  pub once-length : length once ≡ 16
  pub by-row-length : length by_row ≡ 16
  pub sums : sum_of once ≡ sum_of (drop at rows)
  pub weighs : weighed place once + 16 * sum_of by_row ≡ weighed place (drop at rows)
  pub once-most : (k : ℕ) → 16 * get_or once k 0 ≤ 255 * (length rows - at)
  pub by-row-most : (k : ℕ) → 16 * get_or by_row k 0 ≤ 4080 * (length rows - at)

-- ---- no row

zeros-at : (n k : ℕ) → get_or (zeros n) k 0 ≡ 0
zeros-at zero k = refl
zeros-at (suc n) zero = refl
zeros-at (suc n) (suc k) = zeros-at n k

pub counted_none : (rows : List ℕ) (place : ℕ) → length rows % 16 ≡ 0 → Counted rows place (length rows) (zeros 16) (zeros 16)
unfolding sum_of weighed
counted_none rows place p = record {
  within = omega arith;
  whole = p;
  once-length = refl;
  by-row-length = refl;
  sums = rw drop-length;
  weighs = rw drop-length (omega arith);
  once-most = λ k. rw (zeros-at 16 k) (omega arith);
  by-row-most = λ k. rw (zeros-at 16 k) (omega arith);
}

-- ---- one row more

module _ (rows : List ℕ) (place at : ℕ) (once by_row : List ℕ) (h : Counted rows place at once by_row) (more : 0 < at) (few : length rows ≤ 256) where
  pub by-row-fits : (k : ℕ) → get_or by_row k 0 + get_or once k 0 < 65536
  by-row-fits k = omega (arith, h.once-most k, h.by-row-most k)

  pub row-length : length (take (at - 16 + 16 - (at - 16)) (drop (at - 16) rows)) ≡ 16
  row-length = simp (length-take, length-drop) (omega arith)

  module _ (bytes : (k : ℕ) → Fits w8 (get_or rows k 0)) where
    pub once-fits : (n k : ℕ) → get_or once k 0 + get_or (take n (drop (at - 16) rows)) k 0 < 65536
    once-fits n k = omega (arith, h.once-most k, row-byte rows bytes n (at - 16) k)

    pub counted-row : {once' by-row' : List ℕ} → by-row' ≡ added by_row once → once' ≡ added once (take (at - 16 + 16 - (at - 16)) (drop (at - 16) rows)) → Counted rows place (at - 16) once' by-row'
    counted-row p q =
        let row = take (at - 16 + 16 - (at - 16)) (drop (at - 16) rows) in
        let n : at - 16 + 16 - (at - 16) ≡ 16 = omega arith in
        let m : at - 16 + 16 ≡ at = omega arith in
        let d : drop 16 (drop (at - 16) rows) ≡ drop at rows = rw (drop-drop, m) in
        let e : row ++ drop at rows ≡ drop (at - 16) rows = rw (n, ← d) (take-append-drop 16 (drop (at - 16) rows)) in
        rw (p, q) record {
          within = omega arith;
          whole = omega arith;
          once-length = length-added once row ∙ h.once-length;
          by-row-length = length-added by_row once ∙ h.by-row-length;
          sums = row-sums row (drop at rows) (drop (at - 16) rows) once by_row e row-length h.once-length h.sums;
          weighs = row-weighs row (drop at rows) (drop (at - 16) rows) once by_row e row-length h.once-length h.sums place h.by-row-length h.weighs;
          once-most = λ k. omega (arith, added-most once row k, h.once-most k, row-byte rows bytes (at - 16 + 16 - (at - 16)) (at - 16) k);
          by-row-most = λ k. omega (arith, added-most by_row once k, h.once-most k, h.by-row-most k);
        }

-- the row that comes off the back of what is left
module _ (rows : List ℕ) (place : ℕ) (once by_row rest front row : List ℕ) (h : Counted rows place (length rest) once by_row) (t : rest ≡ take (length rest) rows) (e : rest ≡ front ++ row)
    (m : length row ≡ min 16 (length rest)) (more : 0 < length rest) where
  front-long : length front ≡ length rest - 16
  front-long = let a = ap length e ∙ length-append front row in let w = h.whole in omega arith

  pub front-is : front ≡ take (length front) rows
  front-is =
      let n = front-long in
      sym (take_at front row (length front) refl) ∙ ap (take (length front)) (sym e ∙ t) ∙ take-take (length front) (length rest) rows (omega arith)

  row-is : row ≡ take (length rest - 16 + 16 - (length rest - 16)) (drop (length rest - 16) rows)
  row-is =
      let w = h.whole in
      let n : length rest - (length rest - 16) ≡ length rest - 16 + 16 - (length rest - 16) = omega arith in
      sym (drop_at front row (length rest - 16) front-long) ∙ ap (drop (length rest - 16)) (sym e ∙ t) ∙ drop-take (length rest - 16) (length rest) rows ∙ rw n

  pub row-came : {once' by-row' : List ℕ} → length rows ≤ 256 → ((k : ℕ) → Fits w8 (get_or rows k 0)) → by-row' ≡ added by_row once → once' ≡ added once row → Counted rows place (length front) once' by-row'
  row-came few bytes p q = rw front-long (counted-row rows place (length rest) once by_row h more few bytes p (q ∙ ap (added once) row-is))

-- ---- all rows

module _ (rows : List ℕ) (place at : ℕ) (once by_row : List ℕ) (h : Counted rows place at once by_row) (none : at ≡ 0) where
  pub counted-all : {a b : ℕ} → a ≡ weighed place once → b ≡ sum_of by_row → a + 16 * b ≡ weighed place rows
  counted-all p q =
      let w : weighed place once + 16 * sum_of by_row ≡ weighed place rows = rw none at h.weighs in
      omega arith

  module _ (small : weighed place rows < 4294967296) where
    pub once-small : weighed place once < 4294967296
    once-small = let w = counted-all refl refl in omega arith

    pub by-row-small : sum_of by_row < 4294967296
    by-row-small = let w = counted-all refl refl in omega arith

    pub product-fits : {b : ℕ} → b ≡ sum_of by_row → Fits w32 (16 * b)
    product-fits q = let w = counted-all refl q in omega arith

    pub all-fits : {a b : ℕ} → a ≡ weighed place once → b ≡ sum_of by_row → Fits w32 (a + 16 * b)
    all-fits p q = let w = counted-all p q in omega arith
