-- The loop over the ends: the URLs that were passed, and those that are left without a fault, make the whole count. And the first end that is cut. Assumes nothing.
use Rattle.std.proofs.Common.{◌≡◌, Bool, true, false, ◌||◌, List, [], ◌∷◌, ℕ, suc, ◌+◌, ◌≤◌, ◌<◌, ltb, length, drop, get_or, refl, sym, ◌∙◌, not, cond, position, Some, None, nat_lt, if◌then◌else◌, arith, ltb-true, ltb-false, drop_of_length-le}
use Rattle.std.specs.List.{prefix_len}
use Rattle.lent.proofs.Laws.{next}
use Rattle.utf8.specs.Utf8.{inside}
use Rattle.call_links_answer.specs.Links.{ordered, uncut}

-- ---- each end by itself

module _ (size from e : ℕ) (es : List ℕ) where
  ordered-stops : (ltb e from || ltb size e) ≡ true → ordered size from (e ∷ es) ≡ 0
  unfolding ordered
  ordered-stops h = rw h

  ordered-goes : (ltb e from || ltb size e) ≡ false → ordered size from (e ∷ es) ≡ suc (ordered size e es)
  unfolding ordered
  ordered-goes h = rw h

pub ordered-none : (size from : ℕ) → ordered size from [] ≡ 0
unfolding ordered
ordered-none size from = refl

-- the first that is cut, or how many there are
module _ (text : List ℕ) where
  abbrev passes : ℕ → Bool
  passes e = not (inside text e)

  uncut-prefix : (es : List ℕ) → prefix_len passes es ≡ uncut text es
  unfolding uncut
  uncut-prefix [] = refl
  uncut-prefix (e ∷ es) = on (inside text e) (uncut-prefix es)
    where
      on : (x : Bool) → prefix_len passes es ≡ uncut text es → cond (not x) (1 + prefix_len passes es) 0 ≡ (if x then 0 else suc (uncut text es))
      on true h = refl
      on false h = omega arith

  module _ (es : List ℕ) where
    some-case : (n m k : ℕ) (x : Bool) → nat_lt n m ≡ x → cond x (Some n) None ≡ Some k → (k ≡ n) × (n < m)
    some-case n m k true p q = (cc, ltb-true n m p)
    some-case n m k false p q = cc

    none-case : (n m : ℕ) (x : Bool) → nat_lt n m ≡ x → cond x (Some n) None ≡ None → m ≤ n
    none-case n m true p q = cc
    none-case n m false p q = ltb-false n m p

    pub some-cut : {k : ℕ} → Some k ≡ position (λ e. inside text e) es → (k ≡ uncut text es) × (k < length es)
    some-cut {k} p =
        let h = some-case (prefix_len passes es) (length es) k (nat_lt (prefix_len passes es) (length es)) refl (sym p) in
        (h.0 ∙ uncut-prefix es, omega arith)

    pub none-cut : None ≡ position (λ e. inside text e) es → length es ≤ uncut text es
    none-cut p = omega (arith, none-case (prefix_len passes es) (length es) (nat_lt (prefix_len passes es) (length es)) refl (sym p), uncut-prefix es)

-- ---- at the index i

module _ (size : ℕ) (ends : List ℕ) (before i n : ℕ) {e : ℕ} (p : e ≡ get_or ends i 0) (h : i < length ends) (q : i + ordered size before (drop i ends) ≡ n) where
  here : i + ordered size before (e ∷ drop (i + 1) ends) ≡ n
  here = rw p (rw (next ends i h) at q)

  pub stops : (ltb e before || ltb size e) ≡ true → i ≡ n
  stops k = omega (arith, here, ordered-stops size before e (drop (i + 1) ends) k)

  pub goes_on : (ltb e before || ltb size e) ≡ false → i + 1 + ordered size e (drop (i + 1) ends) ≡ n
  goes_on k = omega (arith, here, ordered-goes size before e (drop (i + 1) ends) k)

pub all-ordered : (size : ℕ) (ends : List ℕ) (before i n : ℕ) → length ends ≤ i → i ≤ length ends → i + ordered size before (drop i ends) ≡ n → length ends ≡ n
all-ordered size ends before i n h k q = omega (arith, rw (drop_of_length-le ends h) at q, ordered-none size before)
