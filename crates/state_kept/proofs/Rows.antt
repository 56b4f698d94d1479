-- Tables of columns: what a word set in one row is to each column. Assumes nothing.
use Rattle.std.proofs.Common.{◌≡◌, refl, ap, ◌∙◌, List, [], ◌∷◌, ℕ, zero, suc, ◌+◌, ◌-◌, ◌*◌, ◌≤◌, ◌<◌, mul-le-mul_right, suc-mul, arith, length, take, drop, set, get_or, length-set, length-take, length-drop, get_or-set_same, get_or-set_other, get_or-take, get_or-drop, drop-set-lt}
use Rattle.std.proofs.Math.Seq.{drop-set-add, take-set-le, take-set-lt}
use Rattle.state_kept.specs.Kept.{column}
use Rattle.state_kept.specs.Private.{set_row}

-- a column's word is the table's
pub word : (n k i : ℕ) (table : List ℕ) → i < n → get_or (column n k table) i 0 ≡ get_or table (k * n + i) 0
word n k i table h = get_or-take n (drop (k * n) table) i 0 h ∙ get_or-drop (k * n) table i 0

pub long-column : (n k : ℕ) (table : List ℕ) → suc k * n ≤ length table → length (column n k table) ≡ n
long-column n k table h = let e : suc k * n ≡ k * n + n = suc-mul k n in simp (length-take, length-drop) (omega arith)

-- a column before another ends where that begins, or earlier
earlier : (n j k : ℕ) → j < k → j * n + n ≤ k * n
earlier n j k h = let e : suc j * n ≡ j * n + n = suc-mul j n in let l : suc j * n ≤ k * n = mul-le-mul_right n h in omega arith

module _ (n k i v : ℕ) (table : List ℕ) (h : i < n) where
  pub own-column : column n k (set table (k * n + i) v) ≡ set (column n k table) i v
  own-column = ap (take n) (drop-set-add (k * n) table i v) ∙ take-set-lt n (drop (k * n) table) i v h

  pub before-column : (j : ℕ) → j < k → column n j (set table (k * n + i) v) ≡ column n j table
  before-column j l =
      let e : k * n + i ≡ j * n + (k * n + i - j * n) = (let x = earlier n j k l in omega arith) in
      ap (λ (p : ℕ). take n (drop (j * n) (set table p v))) e
      ∙ ap (take n) (drop-set-add (j * n) table (k * n + i - j * n) v)
      ∙ take-set-le n (drop (j * n) table) (k * n + i - j * n) v (let x = earlier n j k l in omega arith)

  pub behind-column : (j : ℕ) → k < j → column n j (set table (k * n + i) v) ≡ column n j table
  behind-column j l = ap (take n) (drop-set-lt (j * n) table (k * n + i) v (let x = earlier n k j l in omega arith))

-- ---- a row

pub long-row : (n i k : ℕ) (words table : List ℕ) → length (set_row n i k words table) ≡ length table
long-row n i k [] table = refl
long-row n i k (v ∷ vs) table = long-row n i (suc k) vs (set table (k * n + i) v) ∙ length-set table (k * n + i) v

row-behind : (n i k j : ℕ) (words table : List ℕ) → i < n → j < k → column n j (set_row n i k words table) ≡ column n j table
row-behind n i k j [] table h l = refl
row-behind n i k j (v ∷ vs) table h l = row-behind n i (suc k) j vs (set table (k * n + i) v) h (omega arith) ∙ before-column n k i v table h j l

row_from : (n i k m : ℕ) (words table : List ℕ) → i < n → m < length words → column n (k + m) (set_row n i k words table) ≡ set (column n (k + m) table) i (get_or words m 0)
row_from n i k m [] table h l = absurd (omega arith)
row_from n i k zero (v ∷ vs) table h l =
    let e : k + 0 ≡ k = omega arith in
    rw e (row-behind n i (suc k) k vs (set table (k * n + i) v) h (omega arith) ∙ own-column n k i v table h)
row_from n i k (suc m) (v ∷ vs) table h l =
    let e : k + suc m ≡ suc k + m = omega arith in
    let x : k < suc k + m = omega arith in
    rw e (row_from n i (suc k) m vs (set table (k * n + i) v) h (omega arith) ∙ ap (λ (t : List ℕ). set t i (get_or vs m 0)) (behind-column n k i v table h (suc k + m) x))

-- each column has its word
pub row-column : (n i j : ℕ) (words table : List ℕ) → i < n → j < length words → column n j (set_row n i 0 words table) ≡ set (column n j table) i (get_or words j 0)
row-column n i j words table h l = let e : 0 + j ≡ j = omega arith in rw e at (row_from n i 0 j words table h l)

module _ (n i j : ℕ) (words table : List ℕ) (h : i < n) (l : j < length words) where
  pub row-own : length words * n ≤ length table → get_or (column n j (set_row n i 0 words table)) i 0 ≡ get_or words j 0
  row-own m =
      let x : suc j * n ≤ length words * n = mul-le-mul_right n l in
      let y : length (column n j table) ≡ n = long-column n j table (omega arith) in
      rw (row-column n i j words table h l) (get_or-set_same (column n j table) i (get_or words j 0) 0 (omega arith))

  pub row_other : (m : ℕ) → m < i → get_or (column n j (set_row n i 0 words table)) m 0 ≡ get_or (column n j table) m 0
  row_other m q = rw (row-column n i j words table h l) (get_or-set_other (column n j table) i m (get_or words j 0) 0 (λ e. omega arith))
