-- What the code of `normalize_visits` goes by, and that there are at most as many visits as bytes. Assumes nothing.
use Rattle.std.proofs.Common.{◌≡◌, refl, ap, ◌∙◌, Bool, true, false, List, [], ◌∷◌, ℕ, zero, suc, ◌+◌, ◌-◌, ◌≤◌, ◌<◌, arith, ne_eqb, length, drop, take, get_or, length-drop, drop_of_length-le, drop-drop, take_all}
use Rattle.lent.proofs.Laws.{next}
use Rattle.utf8.specs.Utf8.{length_of}
use Rattle.url_byte.specs.Byte.{two_alnum}
use Rattle.normalize_visits.specs.Visits.{behind_of, visits_from, visits_of}

-- ---- at most as many as bytes

most-from : (n : ℕ) (l : List ℕ) → visits_from n l ≤ length l
unfolding visits_from
most-from n [] = omega arith
most-from zero (b ∷ l) = let h = most-from (behind_of (b ∷ l)) l in omega arith
most-from (suc n) (b ∷ l) = let h = most-from n l in omega arith

pub most : (url : List ℕ) → visits_of url ≤ length url
unfolding visits_of
most url = most-from 0 url

-- ---- the walk

-- bytes that were passed
pub passed : (n : ℕ) (l : List ℕ) → visits_from n l ≡ visits_of (drop n l)
unfolding visits_from visits_of
passed zero l = refl
passed (suc n) [] = refl
passed (suc n) (b ∷ l) = passed n l

pub none : visits_of [] ≡ 0
unfolding visits_of visits_from
none = refl

module _ (url : List ℕ) (i n : ℕ) (h : i < length url) (p : n ≡ behind_of (drop i url)) where
  one : visits_of (drop i url) ≡ suc (visits_of (drop (i + (1 + n)) url))
  unfolding visits_of visits_from
  one =
      let e : i + (1 + n) ≡ i + 1 + n = omega arith in
      let q : n ≡ behind_of (get_or url i 0 ∷ drop (i + 1) url) = rw (next url i h) at p in
      let d : drop n (drop (i + 1) url) ≡ drop (i + (1 + n)) url = rw (drop-drop, e) in
      let v : visits_of (drop i url) ≡ suc (visits_from n (drop (i + 1) url)) = rw (next url i h, ← q) in
      v ∙ ap suc (passed n (drop (i + 1) url) ∙ ap visits_of d)

  pub goes_on : (k : ℕ) → k + visits_of (drop i url) ≡ visits_of url → (k + 1) + visits_of (drop (i + (1 + n)) url) ≡ visits_of url
  goes_on k q = let o = one in omega arith

  pub ends : (k : ℕ) → length url - i ≤ n → k + visits_of (drop i url) ≡ visits_of url → k + 1 ≡ visits_of url
  ends k m q =
      let o = one in
      let z : length url ≤ i + (1 + n) = omega arith in
      let y : visits_of (drop (i + (1 + n)) url) ≡ 0 = rw (drop_of_length-le url z) none in
      omega arith

pub ended : (url : List ℕ) (i k : ℕ) → length url ≤ i → k + visits_of (drop i url) ≡ visits_of url → k ≡ visits_of url
ended url i k h q = let y : visits_of (drop i url) ≡ 0 = rw (drop_of_length-le url h) none in omega arith

-- ---- what a visit passes

module _ (url : List ℕ) (i : ℕ) (h : i < length url) where
  rest : take (length url - (i + 1)) (drop (i + 1) url) ≡ drop (i + 1) url
  rest = take_all (length url - (i + 1)) (drop (i + 1) url) (rw length-drop (omega arith))

  module _ (p : get_or url i 0 ≡ 37) (x : Bool) (q : x ≡ two_alnum (take (length url - (i + 1)) (drop (i + 1) url))) where
    two : x ≡ two_alnum (drop (i + 1) url)
    two = rw rest at q

    pub of-triple : x ≡ true → 2 ≡ behind_of (drop i url)
    unfolding behind_of
    of-triple r = rw (next url i h, p, ← two, r)

    pub of-percent : x ≡ false → 0 ≡ behind_of (drop i url)
    unfolding behind_of length_of
    of-percent r = rw (next url i h, p, ← two, r)

  pub of-other : (get_or url i 0 ≡ 37 → ⊥) → (n k : ℕ) → n ≡ length_of (get_or url i 0) → k ≡ n - 1 → k ≡ behind_of (drop i url)
  unfolding behind_of
  of-other p n k q f = f ∙ rw (next url i h, ne_eqb (get_or url i 0) 37 p, ← q)
