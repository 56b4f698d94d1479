-- The laws of a packed table: each name lies in it, and comes before all that follow. Assumes nothing.
use Rattle.std.proofs.Common.{Ordering, Less, Equal, Greater, ◌≡◌, refl, ⊎_elim, true, List, [], ◌∷◌, ℕ, zero, suc, ◌+◌, ◌-◌, ◌<◌, ◌≤◌, eq-or-lt_of_le, arith, ltb-true, leb-true, leb, length, get_or}
use Rattle.lent.proofs.Laws.{and_left, and_right}
use Rattle.character_reference.specs.Table.{order_of, is_before, is_ascending, name_at, Lies, unpacked_from, is_within, is_packed_from}
use Rattle.character_reference.proofs.Compared.{before-trans}

is-before : (o : Ordering) → is_before o ≡ true → o ≡ Less
is-before Less p = refl
is-before Equal p = let z : ◌≡◌ {A = ℕ} 0 1 = cc in absurd (omega arith)
is-before Greater p = let z : ◌≡◌ {A = ℕ} 0 1 = cc in absurd (omega arith)

module _ (packed starts : List ℕ) where
  abbrev name : ℕ → List ℕ
  name k = name_at packed starts k

  -- ---- where names lie

  within-at : (codes : List ℕ) (k m : ℕ) → is_packed_from packed starts k codes ≡ true → k ≤ m → m < k + length codes → is_within packed starts m ≡ true
  unfolding is_packed_from
  within-at [] k m fair h l = absurd (omega arith)
  within-at (code ∷ codes) k m fair h l =
      ⊎_elim
      (λ e. rw e at (and_left (is_within packed starts k) (is_packed_from packed starts (k + 1) codes) fair))
      (λ n. within-at codes (k + 1) m (and_right (is_within packed starts k) (is_packed_from packed starts (k + 1) codes) fair) (omega arith) (omega arith))
      (eq-or-lt_of_le h)

  all_start : (codes : List ℕ) (k : ℕ) → is_packed_from packed starts k codes ≡ true → k + length codes < length starts
  unfolding is_packed_from
  all_start [] k fair = omega (arith, ltb-true k (length starts) fair)
  all_start (code ∷ codes) k fair = omega (arith, all_start codes (k + 1) (and_right (is_within packed starts k) (is_packed_from packed starts (k + 1) codes) fair))

  pub lies : (codes : List ℕ) (k : ℕ) → is_packed_from packed starts 0 codes ≡ true → k < length codes → Lies packed starts k
  lies codes k fair h =
      let w = within-at codes 0 k fair (omega arith) (omega arith) in
      record {
        start = omega (arith, all_start codes 0 fair);
        in_order = leb-true (get_or starts k 0) (get_or starts (k + 1) 0) (and_left (leb (get_or starts k 0) (get_or starts (k + 1) 0)) (leb (get_or starts (k + 1) 0) (length packed)) w);
        end = leb-true (get_or starts (k + 1) 0) (length packed) (and_right (leb (get_or starts k 0) (get_or starts (k + 1) 0)) (leb (get_or starts (k + 1) 0) (length packed)) w);
      }

  -- ---- names ascend

  next-before : (codes : List ℕ) (k m : ℕ) → is_ascending (unpacked_from packed starts k codes) ≡ true → k ≤ m → m + 1 < k + length codes → order_of (name m) (name (m + 1)) ≡ Less
  unfolding is_ascending unpacked_from
  next-before [] k m up h l = absurd (omega arith)
  next-before (code ∷ []) k m up h l = absurd (omega arith)
  next-before (code ∷ other ∷ codes) k m up h l =
      ⊎_elim
      (λ e. rw e at (is-before (order_of (name k) (name (k + 1))) (and_left (is_before (order_of (name k) (name (k + 1)))) (is_ascending (unpacked_from packed starts (k + 1) (other ∷ codes))) up)))
      (λ n. next-before (other ∷ codes) (k + 1) m (and_right (is_before (order_of (name k) (name (k + 1)))) (is_ascending (unpacked_from packed starts (k + 1) (other ∷ codes))) up) (omega arith) (omega arith))
      (eq-or-lt_of_le h)

  module _ (codes : List ℕ) (up : is_ascending (unpacked_from packed starts 0 codes) ≡ true) where
    before : (j n : ℕ) → j + 1 + n < length codes → order_of (name j) (name (j + 1 + n)) ≡ Less
    before j zero l = let e : j + 1 + 0 ≡ j + 1 = omega arith in rw e (next-before codes 0 j up (omega arith) (omega arith))
    before j (suc n) l =
        let e : j + 1 + suc n ≡ j + 1 + n + 1 = omega arith in
        rw e (before-trans (name j) (name (j + 1 + n)) (name (j + 1 + n + 1)) (before j n (omega arith)) (next-before codes 0 (j + 1 + n) up (omega arith) (omega arith)))

    -- each name comes before all that follow
    pub ascending : (j k : ℕ) → j < k → k < length codes → order_of (name j) (name k) ≡ Less
    ascending j k h l = let e : j + 1 + (k - (j + 1)) ≡ k = omega arith in rw e at (before j (k - (j + 1)) (omega arith))
