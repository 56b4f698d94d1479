-- Two byte strings are the same exactly when they are equal. Assumes nothing.
use lib.Pointwise.{pointwise}
use Rattle.std.proofs.Common.{◌≡◌, refl, ap, ◌∙◌, ap₂, Bool, ◌&&◌, true, List, [], ◌∷◌, ◌↔◌, ℕ, eqb-true, eq-eqb, eqb}
use Rattle.lent.specs.Bytes.{same}
use Rattle.lent.proofs.Laws.{and_left, and_right}

same_self : (s : List ℕ) → same s s ≡ true
same_self [] = refl
same_self (x ∷ xs) = rw (eq-eqb x x refl) (same_self xs)

pub same-equal : (s t : List ℕ) → same s t ≡ true → s ≡ t
same-equal [] [] p = refl
same-equal [] (y ∷ ys) p = cc
same-equal (x ∷ xs) [] p = cc
same-equal (x ∷ xs) (y ∷ ys) p =
    ap₂ (λ (z : ℕ) (zs : List ℕ). z ∷ zs) (eqb-true x y (and_left (eqb x y) (same xs ys) p)) (same-equal xs ys (and_right (eqb x y) (same xs ys) p))

pub same-iff : (s t : List ℕ) → (same s t ≡ true) ↔ (s ≡ t)
same-iff s t = (same-equal s t, λ p. rw p (same_self t))

-- what the library's `==` of two slices says
pub same-by-eq : {x : Bool} (s : List ℕ) {t u : List ℕ} → t ≡ u → x ≡ pointwise eqb s t → x ≡ same s u
same-by-eq s {t} {u} p e = e ∙ ap (pointwise eqb s) p ∙ on s u
  where
    on : (s t : List ℕ) → pointwise eqb s t ≡ same s t
    on [] [] = refl
    on [] (y ∷ ys) = refl
    on (x ∷ xs) [] = refl
    on (x ∷ xs) (y ∷ ys) = ap (λ (b : Bool). eqb x y && b) (on xs ys)
