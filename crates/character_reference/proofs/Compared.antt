-- The laws of the order of byte strings. Assumes nothing.
use Rattle.std.proofs.Common.{Ordering, Less, Equal, Greater, ◌≡◌, refl, sym, ◌∙◌, Bool, true, false, List, [], ◌∷◌, ℕ, ◌<◌, arith, lt-ltb, le-ltb, eq-eqb, ne_eqb, ltb-true, ltb-false, ltb}
use Rattle.std.specs.Ordering.{nat_cmp}
use Rattle.std.specs.Cmp.Lexicographic.{slice_cmp}
use Rattle.lent.specs.Bytes.{same}
use Rattle.character_reference.specs.Table.{order_of}

-- ---- by the first bytes

module _ (x y : ℕ) (s t : List ℕ) where
  pub first-less : x < y → order_of (x ∷ s) (y ∷ t) ≡ Less
  unfolding order_of
  first-less h = rw (lt-ltb x y h)

  pub first_more : y < x → order_of (x ∷ s) (y ∷ t) ≡ Greater
  unfolding order_of
  first_more h = rw (le-ltb x y (omega arith), lt-ltb y x h)

  pub first-same : x ≡ y → order_of (x ∷ s) (y ∷ t) ≡ order_of s t
  unfolding order_of
  first-same e = rw (le-ltb x y (omega arith), le-ltb y x (omega arith))

  -- what is shown for each of the three is shown
  by_first : (P : Ordering → Type 0) → (x < y → P Less) → (y < x → P Greater) → (x ≡ y → P (order_of s t)) → P (order_of (x ∷ s) (y ∷ t))
  by_first P less more equal = go (ltb x y) (ltb y x) refl refl
    where
      go : (a b : Bool) → ltb x y ≡ a → ltb y x ≡ b → P (order_of (x ∷ s) (y ∷ t))
      go true b p q = let h = ltb-true x y p in rw (first-less h) (less h)
      go false true p q = let h = ltb-true y x q in rw (first_more h) (more h)
      go false false p q = let e : x ≡ y = omega (arith, ltb-false x y p, ltb-false y x q) in rw (first-same e) (equal e)

-- it is the order of the library's `cmp`
pub cmp-is : (s t : List ℕ) → order_of s t ≡ slice_cmp nat_cmp s t
unfolding order_of
cmp-is [] [] = refl
cmp-is [] (y ∷ t) = refl
cmp-is (x ∷ s) [] = refl
cmp-is (x ∷ s) (y ∷ t) =
    by_first x y s t (λ o. o ≡ slice_cmp nat_cmp (x ∷ s) (y ∷ t))
    (λ h. rw (lt-ltb x y h))
    (λ h. rw (le-ltb x y (omega arith), ne_eqb x y (omega arith)))
    (λ e. rw (le-ltb x y (omega arith), eq-eqb x y e) (cmp-is s t))

-- ---- what an order says

abbrev pub is_same : Ordering → Bool
is_same Less = false
is_same Equal = true
is_same Greater = false

pub told : (s t : List ℕ) → same s t ≡ is_same (order_of s t)
unfolding order_of
told [] [] = refl
told [] (y ∷ t) = refl
told (x ∷ s) [] = refl
told (x ∷ s) (y ∷ t) =
    by_first x y s t (λ o. same (x ∷ s) (y ∷ t) ≡ is_same o)
    (λ h. rw (ne_eqb x y (omega arith)))
    (λ h. rw (ne_eqb x y (omega arith)))
    (λ e. rw (eq-eqb x y e) (told s t))

abbrev flipped : Ordering → Ordering
flipped Less = Greater
flipped Equal = Equal
flipped Greater = Less

pub other_way : (s t : List ℕ) → order_of t s ≡ flipped (order_of s t)
unfolding order_of
other_way [] [] = refl
other_way [] (y ∷ t) = refl
other_way (x ∷ s) [] = refl
other_way (x ∷ s) (y ∷ t) =
    by_first x y s t (λ o. order_of (y ∷ t) (x ∷ s) ≡ flipped o)
    (λ h. first_more y x t s h)
    (λ h. first-less y x t s h)
    (λ e. first-same y x t s (sym e) ∙ other_way s t)

pub equal : (s t : List ℕ) → order_of s t ≡ Equal → s ≡ t
unfolding order_of
equal [] [] p = refl
equal [] (y ∷ t) p = let z : ◌≡◌ {A = ℕ} 0 1 = cc in absurd (omega arith)
equal (x ∷ s) [] p = let z : ◌≡◌ {A = ℕ} 0 1 = cc in absurd (omega arith)
equal (x ∷ s) (y ∷ t) p =
    by_first x y s t (λ o. o ≡ Equal → (x ∷ s) ≡ (y ∷ t))
    (λ h q. let z : ◌≡◌ {A = ℕ} 0 1 = cc in absurd (omega arith))
    (λ h q. let z : ◌≡◌ {A = ℕ} 0 1 = cc in absurd (omega arith))
    (λ e q. rw (e, equal s t q))
    p

pub before-trans : (s t u : List ℕ) → order_of s t ≡ Less → order_of t u ≡ Less → order_of s u ≡ Less
unfolding order_of
before-trans s [] u p q = absurd (none_before s p)
  where
    none_before : (s : List ℕ) → order_of s [] ≡ Less → ⊥
    none_before [] p = let z : ◌≡◌ {A = ℕ} 0 1 = cc in omega arith
    none_before (x ∷ s) p = let z : ◌≡◌ {A = ℕ} 0 1 = cc in omega arith
before-trans [] (y ∷ t) [] p q = let z : ◌≡◌ {A = ℕ} 0 1 = cc in absurd (omega arith)
before-trans [] (y ∷ t) (z ∷ u) p q = refl
before-trans (x ∷ s) (y ∷ t) [] p q = let z : ◌≡◌ {A = ℕ} 0 1 = cc in absurd (omega arith)
before-trans (x ∷ s) (y ∷ t) (z ∷ u) p q =
    by_first x y s t (λ o. o ≡ Less → order_of (x ∷ s) (z ∷ u) ≡ Less)
    (λ h e. by_first y z t u (λ o. o ≡ Less → order_of (x ∷ s) (z ∷ u) ≡ Less)
    (λ l f. first-less x z s u (omega arith))
    (λ l f. let z : ◌≡◌ {A = ℕ} 0 1 = cc in absurd (omega arith))
    (λ l f. first-less x z s u (omega arith))
    q)
    (λ h e. let z : ◌≡◌ {A = ℕ} 0 1 = cc in absurd (omega arith))
    (λ h e. by_first y z t u (λ o. o ≡ Less → order_of (x ∷ s) (z ∷ u) ≡ Less)
    (λ l f. first-less x z s u (omega arith))
    (λ l f. let z : ◌≡◌ {A = ℕ} 0 1 = cc in absurd (omega arith))
    (λ l f. first-same x z s u (h ∙ l) ∙ before-trans s t u e f)
    q)
    p
