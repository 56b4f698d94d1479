-- A URL's scheme as a text of its own, and the judgement by it. Assumes nothing.
use Rattle.std.proofs.Common.{if◌then◌else◌, ◌≡◌, refl, ap, ◌∙◌, Bool, true, false, List, [], ◌∷◌, Option, Some, None, ℕ, ◌+◌, arith, eqb, length, take}
use Rattle.lent.specs.Bytes.{bytes, one_of, mapped, lower, listed}
use Rattle.sanitize_uri.specs.Protocols.{colon_from, colon_of, allowed_at, is_allowed}

-- what stands before the colon, where there is one
abbrev pub led : ℕ → Option (List ℕ) → Option (List ℕ)
led b None = None
led b (Some s) = Some (b ∷ s)

abbrev pub is_bar : ℕ → Bool
is_bar b = one_of (bytes "?#/") b

unfoldable pub scheme_of : List ℕ → Option (List ℕ)
scheme_of [] = None
scheme_of (b ∷ bs) = if eqb b 58 then Some [] else (if is_bar b then None else led b (scheme_of bs))

abbrev place_of : ℕ → Option (List ℕ) → Option ℕ
place_of i None = None
place_of i (Some s) = Some (i + length s)

abbrev pub judge : List (List ℕ) → Option (List ℕ) → Bool
judge schemes None = true
judge schemes (Some s) = listed schemes (mapped lower s)

colon-is : (i : ℕ) (l : List ℕ) → colon_from i l ≡ place_of i (scheme_of l)
unfolding colon_from scheme_of
colon-is i [] = refl
colon-is i (b ∷ l) = on (eqb b 58) (is_bar b) (colon-is (i + 1) l)
  where
    shifted : (o : Option (List ℕ)) → place_of (i + 1) o ≡ place_of i (led b o)
    shifted None = refl
    shifted (Some s) = ap Some (omega arith)

    on : (x y : Bool) → colon_from (i + 1) l ≡ place_of (i + 1) (scheme_of l)
        → (if x then Some i else (if y then None else colon_from (i + 1) l)) ≡ place_of i (if x then Some [] else (if y then None else led b (scheme_of l)))
    on true y h = ap Some (omega arith)
    on false true h = refl
    on false false h = h ∙ shifted (scheme_of l)

taken : (l s : List ℕ) → scheme_of l ≡ Some s → take (length s) l ≡ s
unfolding scheme_of
taken [] s p = let z : ◌≡◌ {A = ℕ} 0 1 = cc in absurd (omega arith)
taken (b ∷ l) s p = on (eqb b 58) (is_bar b) (scheme_of l) (taken l) p
  where
    on : (x y : Bool) (o : Option (List ℕ)) → ((t : List ℕ) → o ≡ Some t → take (length t) l ≡ t) → (if x then Some [] else (if y then None else led b o)) ≡ Some s → take (length s) (b ∷ l) ≡ s
    on true y o f q = let e : [] ≡ s = cc in rw (← e)
    on false true o f q = let z : ◌≡◌ {A = ℕ} 0 1 = cc in absurd (omega arith)
    on false false None f q = let z : ◌≡◌ {A = ℕ} 0 1 = cc in absurd (omega arith)
    on false false (Some t) f q = let e : b ∷ t ≡ s = cc in rw (← e) (ap (λ (x : List ℕ). b ∷ x) (f t refl))

pub judged-by : (schemes : List (List ℕ)) (l : List ℕ) → is_allowed schemes l ≡ judge schemes (scheme_of l)
unfolding is_allowed colon_of
judged-by schemes l = ap (allowed_at schemes l) (colon-is 0 l) ∙ on (scheme_of l) refl
  where
    on : (o : Option (List ℕ)) → scheme_of l ≡ o → allowed_at schemes l (place_of 0 o) ≡ judge schemes o
    on None p = refl
    on (Some s) p = let z : 0 + length s ≡ length s = omega arith in rw (z, taken l s p)
