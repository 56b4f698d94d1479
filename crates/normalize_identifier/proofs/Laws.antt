-- What other crates go by: laws of identities, of cursors and of the search. Assumes nothing.
use Rattle.std.proofs.Common.{◌≡◌, refl, sym, ap, ◌∙◌, ◌↔◌, Bool, true, false, not, true≢false, List, [], ◌∷◌, ◌++◌, ℕ, zero, suc, ◌+◌, ◌-◌, ◌<◌, ◌≤◌, arith, add-one, leb, length, get_or, take, drop, set, length-take, take-suc-set, leb-true, Option, Some, None}
use borrow.Author.Tests.{lt-leb}
use Rattle.lent.specs.Bytes.{all, between, same}
use Rattle.lent.proofs.Same.{same-iff}
use Rattle.lent.proofs.Laws.{and_left, and_right}
use Rattle.normalize_identifier.specs.declared.Cursor.{Cursor}
use Rattle.normalize_identifier.specs.Identity.{at_start, blank, folded, identity_from, identity_of, left_at, spelled, Spells}
use Rattle.normalize_identifier.specs.Search.{parts, labels_of, first_from, first_same}

-- ---- the definition at a byte that is blank, and at one that is not

module _ (b : ℕ) (bs : List ℕ) where
  pub at-blank : (x y : Bool) → blank b ≡ true → identity_from x y (b ∷ bs) ≡ identity_from x x bs
  unfolding identity_from
  at-blank x y p = rw p

  pub at_byte : (x : Bool) → blank b ≡ false → identity_from x false (b ∷ bs) ≡ folded b ∷ identity_from true false bs
  unfolding identity_from
  at_byte x p = rw p

  pub at_gap : (x y : Bool) → blank b ≡ false → identity_from x true (b ∷ bs) ≡ 32 ∷ identity_from y false (b ∷ bs)
  unfolding identity_from
  at_gap x y p = rw p

pub at-end : (x y : Bool) → identity_from x y [] ≡ []
unfolding identity_from
at-end x y = refl

-- ---- cursors

-- a cursor at the label's start has the whole identity before it
pub left-start : {c : Cursor} (label : List ℕ) → c ≡ at_start → left_at label c ≡ identity_of label
unfolding left_at identity_of
left-start label p = rw p

module _ {label : List ℕ} {c : Cursor} {n : Option (ℕ × Cursor)} (s : Spells label c n) where
  pub left-more : {b : ℕ} {d : Cursor} → n ≡ Some (b, d) → left_at label c ≡ b ∷ left_at label d
  unfolding spelled
  left-more p = rw p at s.left

  pub left_end : n ≡ None → left_at label c ≡ []
  unfolding spelled
  left_end p = rw p at s.left

  pub forward-more : {b : ℕ} {d : Cursor} → n ≡ Some (b, d) → length label - d.at < length label - c.at
  forward-more p = let f = rw p at s.forward in omega arith

-- ---- the same bytes, the same identities

-- two labels are the same by `same_identity` exactly when their identities are equal
pub same-identities : (a b : List ℕ) → (same (identity_of a) (identity_of b) ≡ true) ↔ (identity_of a ≡ identity_of b)
same-identities a b = same-iff (identity_of a) (identity_of b)

-- ---- what an identity holds

pub identity-empty : identity_of [] ≡ []
unfolding identity_of
identity-empty = at-end false false

from-blanks : (x y : Bool) (label : List ℕ) → all blank label ≡ true → identity_from x y label ≡ []
from-blanks x y [] p = at-end x y
from-blanks x y (b ∷ bs) p = at-blank b bs x y (and_left (blank b) (all blank bs) p) ∙ from-blanks x x bs (and_right (blank b) (all blank bs) p)

pub identity-blanks : (label : List ℕ) → all blank label ≡ true → identity_of label ≡ []
unfolding identity_of
identity-blanks label p = from-blanks false false label p

-- no small letter
abbrev pub not_small : ℕ → Bool
not_small b = not (between 97 122 b)

folded-small : (b : ℕ) (t : Bool) → between 97 122 b ≡ t → not_small (folded b) ≡ true
unfolding folded
folded-small b true p =
    let h = leb-true b 122 (and_right (leb 97 b) (leb b 122) p) in
    rw (p, lt-leb 97 (b - 32) (omega arith))
folded-small b false p = rw (p, p)

from-small : (x y : Bool) (label : List ℕ) → all not_small (identity_from x y label) ≡ true
from-small x y [] = rw at-end
from-small x y (b ∷ bs) = go (blank b) y refl (from-small x x bs) (from-small true false bs)
  where
    go : (t y : Bool) → blank b ≡ t → all not_small (identity_from x x bs) ≡ true → all not_small (identity_from true false bs) ≡ true → all not_small (identity_from x y (b ∷ bs)) ≡ true
    go true y p ih jh = rw (at-blank b bs x y p) ih
    go false true p ih jh = rw (at_gap b bs x x p, at_byte b bs x p, folded-small b (between 97 122 b) refl) jh
    go false false p ih jh = rw (at_byte b bs x p, folded-small b (between 97 122 b) refl) jh

pub identity-small : (label : List ℕ) → all not_small (identity_of label) ≡ true
unfolding identity_of
identity-small label = from-small false false label

-- ---- the search

-- k is the first of labels that has the identity of a label
pub record First (labels : List (List ℕ)) (label : List ℕ) (k : ℕ) : Type 0 where
  pub inside : k < length labels
  pub alike : identity_of (get_or labels k []) ≡ identity_of label
  pub before : (i : ℕ) → i < k → identity_of (get_or labels i []) ≡ identity_of label → ⊥

unequal : (a b : List ℕ) → same (identity_of a) (identity_of b) ≡ false → identity_of a ≡ identity_of b → ⊥
unequal a b p q = let z : ◌≡◌ {A = Bool} true false = sym ((same-identities a b).1 q) ∙ p in true≢false z

from_at : (j k : ℕ) (labels : List (List ℕ)) (label : List ℕ) → first_from j labels label ≡ Some k → (i : ℕ) × (k ≡ j + i) × First labels label i
unfolding first_from
from_at j k [] label p = let z : ◌≡◌ {A = ℕ} 0 1 = cc in absurd (omega arith)
from_at j k (l ∷ ls) label p = go (same (identity_of l) (identity_of label)) refl (from_at (j + 1) k ls label)
  where
    go : (t : Bool) → same (identity_of l) (identity_of label) ≡ t → (first_from (j + 1) ls label ≡ Some k → (i : ℕ) × (k ≡ j + 1 + i) × First ls label i) → (i : ℕ) × (k ≡ j + i) × First (l ∷ ls) label i
    go true q ih =
        let e : Some j ≡ Some k = rw q at p in
        let f : j ≡ k = cc in
        (0, omega arith, record { inside = omega arith; alike = (same-identities l label).0 q; before = λ i h. absurd (omega arith) })
    go false q ih =
        let e : first_from (j + 1) ls label ≡ Some k = rw q at p in
        let r = ih e in
        let f = r.2 in (
          suc r.0,
          omega (arith, r.1),
          record {
            inside = omega (arith, f.inside);
            alike = f.alike;
            before = elim [ zero ↦ λ h. unequal l label q | suc i ↦ λ h. f.before i (omega arith) ];
          },
        )

pub first-at : (labels : List (List ℕ)) (label : List ℕ) (k : ℕ) → first_same labels label ≡ Some k → First labels label k
unfolding first_same
first-at labels label k p =
    let r = from_at 0 k labels label p in
    let e : k ≡ r.0 = omega (arith, r.1) in
    rw e r.2

from-none : (j : ℕ) (labels : List (List ℕ)) (label : List ℕ) → first_from j labels label ≡ None → (i : ℕ) → i < length labels → identity_of (get_or labels i []) ≡ identity_of label → ⊥
unfolding first_from
from-none j [] label p i h = absurd (omega arith)
from-none j (l ∷ ls) label p i h = go (same (identity_of l) (identity_of label)) refl i h (from-none (j + 1) ls label)
  where
    go : (t : Bool) → same (identity_of l) (identity_of label) ≡ t → (i : ℕ) → i < length (l ∷ ls)
        → (first_from (j + 1) ls label ≡ None → (i : ℕ) → i < length ls → identity_of (get_or ls i []) ≡ identity_of label → ⊥)
        → identity_of (get_or (l ∷ ls) i []) ≡ identity_of label → ⊥
    go true q i h ih = let e : Some j ≡ None = rw q at p in let z : ◌≡◌ {A = ℕ} 0 1 = cc in absurd (omega arith)
    go false q zero h ih = unequal l label q
    go false q (suc i) h ih = ih (rw q at p) i (omega arith)

pub first-none : (labels : List (List ℕ)) (label : List ℕ) → first_same labels label ≡ None → (i : ℕ) → i < length labels → identity_of (get_or labels i []) ≡ identity_of label → ⊥
unfolding first_same
first-none labels label p = from-none 0 labels label p

parts-long : (text ss es : List ℕ) → length (parts text ss es) ≤ length ss
unfolding parts
parts-long text [] es = omega arith
parts-long text (s ∷ ss) [] = omega arith
parts-long text (s ∷ ss) (e ∷ es) = omega (arith, parts-long text ss es)

-- a place found is below n
pub found_below : (text starts ends label : List ℕ) (n k : ℕ) → first_same (labels_of text starts ends n) label ≡ Some k → k < n
unfolding labels_of
found_below text starts ends label n k p =
    omega (arith, (first-at (labels_of text starts ends n) label k p).inside, parts-long text (take n starts) (take n ends), length-take n starts)

parts_add : (text ss es : List ℕ) (s e : ℕ) → length ss ≡ length es → parts text (ss ++ (s ∷ [])) (es ++ (e ∷ [])) ≡ parts text ss es ++ (take (e - s) (drop s text) ∷ [])
unfolding parts
parts_add text [] [] s e h = refl
parts_add text [] (y ∷ es) s e h = absurd (omega arith)
parts_add text (x ∷ ss) [] s e h = absurd (omega arith)
parts_add text (x ∷ ss) (y ∷ es) s e h = ap (λ (l : List (List ℕ)). take (y - x) (drop x text) ∷ l) (parts_add text ss es s e (omega arith))

-- a label put behind the n of a table
pub labels-add : (text starts ends : List ℕ) (n s e : ℕ) → n < length starts → n < length ends
    → labels_of text (set starts n s) (set ends n e) (n + 1) ≡ labels_of text starts ends n ++ (take (e - s) (drop s text) ∷ [])
unfolding labels_of
labels-add text starts ends n s e h k =
    let l : length (take n starts) ≡ length (take n ends) = simp length-take (omega arith) in
    rw (add-one, take-suc-set starts n s h, take-suc-set ends n e k) (parts_add text (take n starts) (take n ends) s e l)
