-- Why the search finds the first: the labels from a row on. Assumes nothing.
use Rattle.std.proofs.Common.{eq-eqb, ne_eqb, Some, None, ◌≡◌, refl, sym, Bool, true, false, List, [], ◌∷◌, ℕ, zero, suc, min, ◌+◌, ◌-◌, ◌<◌, ◌≤◌, arith, add-one, length, get_or, take, drop, drop_of_length-le, length-take, drop-cons, get_or-take}
use Rattle.lent.specs.Bytes.{same}
use Rattle.normalize_identifier.specs.Identity.{identity_of}
use Rattle.normalize_identifier.specs.Search.{parts, labels_of, first_from, first_same}
use Rattle.signature.specs.declared.Signature.{Signature}
use Rattle.signature.specs.Signature.{signature_of}
use Rattle.signature.specs.Signed.{Signs, RowDiffers, Finds}
use Rattle.signature.proofs.Laws.{unequal, two}

-- ---- labels by their rows

parts_at : (text ss es : List ℕ) (k : ℕ) → k < length ss → k < length es → (k < length (parts text ss es)) × (get_or (parts text ss es) k [] ≡ take (get_or es k 0 - get_or ss k 0) (drop (get_or ss k 0) text))
unfolding parts
parts_at text [] es k h i = absurd (omega arith)
parts_at text (s ∷ ss) [] k h i = absurd (omega arith)
parts_at text (s ∷ ss) (e ∷ es) zero h i = (omega arith, refl)
parts_at text (s ∷ ss) (e ∷ es) (suc k) h i = let r = parts_at text ss es k (omega arith) (omega arith) in (omega (arith, r.0), r.1)

parts-long : (text ss es : List ℕ) → (length (parts text ss es) ≤ length ss) × (length (parts text ss es) ≤ length es)
unfolding parts
parts-long text [] es = (omega arith, omega arith)
parts-long text (s ∷ ss) [] = (omega arith, omega arith)
parts-long text (s ∷ ss) (e ∷ es) = let r = parts-long text ss es in (omega (arith, r.0), omega (arith, r.1))

module _ (text starts ends : List ℕ) (n : ℕ) where
  rows_long : (length (labels_of text starts ends n) ≤ n) × (length (labels_of text starts ends n) ≤ length starts) × (length (labels_of text starts ends n) ≤ length ends)
  unfolding labels_of
  rows_long =
      let r = parts-long text (take n starts) (take n ends) in
      let x = length-take n starts in
      let y = length-take n ends in
      (omega (arith, r.0), omega (arith, r.0), omega (arith, r.1))

  module _ {k : ℕ} (h : k < n) (i : k < length starts) (j : k < length ends) where
    row_inside : k < length (labels_of text starts ends n)
    unfolding labels_of
    row_inside =
        let a : k < length (take n starts) = simp length-take (omega arith) in
        let b : k < length (take n ends) = simp length-take (omega arith) in
        (parts_at text (take n starts) (take n ends) k a b).0

    row_is : get_or (labels_of text starts ends n) k [] ≡ take (get_or ends k 0 - get_or starts k 0) (drop (get_or starts k 0) text)
    unfolding labels_of
    row_is =
        let a : k < length (take n starts) = simp length-take (omega arith) in
        let b : k < length (take n ends) = simp length-take (omega arith) in
        rw (← get_or-take n starts k 0 h, ← get_or-take n ends k 0 h) (parts_at text (take n starts) (take n ends) k a b).1

    row_first : drop k (labels_of text starts ends n) ≡ get_or (labels_of text starts ends n) k [] ∷ drop (k + 1) (labels_of text starts ends n)
    row_first = rw add-one (drop-cons (labels_of text starts ends n) k [] row_inside)

-- ---- the search

-- what is found from row k on is found
pub record Seeking (text starts ends firsts seconds : List ℕ) (n : ℕ) (label : List ℕ) (k : ℕ) : Type 0 where
  pub seeks : Signs firsts seconds (labels_of text starts ends n) → first_from k (drop k (labels_of text starts ends n)) label ≡ first_same (labels_of text starts ends n) label

pub seek-start : (text starts ends firsts seconds : List ℕ) (n : ℕ) (label : List ℕ) → Seeking text starts ends firsts seconds n label 0
unfolding first_same
seek-start text starts ends firsts seconds n label = record { seeks = λ g. refl }

module _ {text starts ends firsts seconds : List ℕ} {n : ℕ} {label : List ℕ} {k : ℕ} (s : Seeking text starts ends firsts seconds n label k) where
  none : length (labels_of text starts ends n) ≤ k → Finds text starts ends firsts seconds n label None
  unfolding first_from
  none h = record { finds = λ g. rw (drop_of_length-le (labels_of text starts ends n) h) at (s.seeks g) }

  pub none_left : {rows least : ℕ} → least ≡ min n (length starts) → rows ≡ min least (length ends) → rows ≤ k → Finds text starts ends firsts seconds n label None
  none_left e f h = let r = rows_long text starts ends n in none (omega (arith, r.0, r.1, r.2))

  module _ {rows least : ℕ} (a : least ≡ min n (length starts)) (b : rows ≡ min least (length ends)) (c : k < rows) where
    h : k < n
    h = omega arith

    i : k < length starts
    i = omega arith

    j : k < length ends
    j = omega arith

    pub seek-skip : {x : Signature} {r : Bool} → RowDiffers firsts seconds k x r → r ≡ true → x ≡ signature_of (identity_of label) → Seeking text starts ends firsts seconds n label (k + 1)
    unfolding first_from
    seek-skip d t e = record {
      seeks = λ g.
          let x = identity_of (get_or (labels_of text starts ends n) k []) in
          let l = row_inside text starts ends n h i j in
          let z : same x (identity_of label) ≡ false = unequal x (identity_of label) (two x (identity_of label) d t e (g.signs k l)) in
          rw (row_first text starts ends n h i j, z) at (s.seeks g);
    }

    module _ {entry : List ℕ} (e : entry ≡ take (get_or ends k 0 - get_or starts k 0) (drop (get_or starts k 0) text)) where
      is : {t : Bool} → t ≡ same (identity_of entry) (identity_of label) → same (identity_of (get_or (labels_of text starts ends n) k [])) (identity_of label) ≡ t
      is f = rw (row_is text starts ends n h i j, ← e) (sym f)

      pub seek-more : false ≡ same (identity_of entry) (identity_of label) → Seeking text starts ends firsts seconds n label (k + 1)
      unfolding first_from
      seek-more f = record { seeks = λ g. rw (row_first text starts ends n h i j, is f) at (s.seeks g) }

      pub seek_found : true ≡ same (identity_of entry) (identity_of label) → Finds text starts ends firsts seconds n label (Some k)
      unfolding first_from
      seek_found f = record { finds = λ g. rw (row_first text starts ends n h i j, is f) at (s.seeks g) }

-- ---- two iterators, by what they had left and what they gave

module _ {xs ys : List ℕ} {w : Bool} (e : same xs ys ≡ w) where
  pub same-more : {x y : ℕ} {xs' ys' : List ℕ} → xs ≡ x ∷ xs' → ys ≡ y ∷ ys' → x ≡ y → same xs' ys' ≡ w
  same-more {x} {y} p q h = let z = eq-eqb x y h in rw (p, q, z) at e

  pub same-differ : {x y : ℕ} {xs' ys' : List ℕ} → xs ≡ x ∷ xs' → ys ≡ y ∷ ys' → (x ≡ y → ⊥) → false ≡ w
  same-differ {x} {y} p q h = let z = ne_eqb x y h in rw (p, q, z) at e

  pub same-longer : {x : ℕ} {xs' : List ℕ} → xs ≡ x ∷ xs' → ys ≡ [] → false ≡ w
  same-longer p q = rw (p, q) at e

  pub same-shorter : {y : ℕ} {ys' : List ℕ} → xs ≡ [] → ys ≡ y ∷ ys' → false ≡ w
  same-shorter p q = rw (p, q) at e

  pub same-both : xs ≡ [] → ys ≡ [] → true ≡ w
  same-both p q = rw (p, q) at e
