-- Lists with one more behind the last, and parts of lists. Assumes nothing.
use Rattle.std.proofs.Common.{◌≡◌, refl, sym, ap, ◌∙◌, List, [], ◌∷◌, ◌++◌, ◌⊎◌, inl, inr, ℕ, zero, suc, ◌+◌, ◌≤◌, ◌<◌, arith, length, take, drop, length-append}
use Rattle.std.proofs.Math.Option.{some}
use Rattle.std.proofs.Math.ListN.{get_elem?}

-- at an index of a list there is one, and where there is one the index is the list's
pub at-index : {A : Type 0} (l : List A) (k : ℕ) → k < length l → (a : A) × (get_elem? l k ≡ some a)
at-index [] k h = absurd (omega arith)
at-index (x ∷ l) zero h = (x, refl)
at-index (x ∷ l) (suc k) h = at-index l k (omega arith)

pub index-low : {A : Type 0} (l : List A) (k : ℕ) (a : A) → get_elem? l k ≡ some a → k < length l
index-low [] k a p = let z : ◌≡◌ {A = ℕ} 0 1 = cc in absurd (omega arith)
index-low (x ∷ l) zero a p = omega arith
index-low (x ∷ l) (suc k) a p = let h = index-low l k a p in omega arith

-- behind the last stands the new one, below it the old
pub one_more : {A : Type 0} (l : List A) (x : A) (k : ℕ) (a : A) → get_elem? (l ++ (x ∷ [])) k ≡ some a → (get_elem? l k ≡ some a) ⊎ ((k ≡ length l) × (x ≡ a))
one_more [] x zero a p = inr (refl, cc)
one_more [] x (suc k) a p = let z : ◌≡◌ {A = ℕ} 0 1 = cc in absurd (omega arith)
one_more (y ∷ l) x zero a p = inl p
one_more (y ∷ l) x (suc k) a p = on (one_more l x k a p)
  where
    on : (get_elem? l k ≡ some a) ⊎ ((k ≡ length l) × (x ≡ a)) → (get_elem? l k ≡ some a) ⊎ ((suc k ≡ suc (length l)) × (x ≡ a))
    on (inl q) = inl q
    on (inr q) = inr (ap suc q.0, q.1)

pub long-more : {A : Type 0} (l : List A) (x : A) → length (l ++ (x ∷ [])) ≡ length l + 1
long-more l x = length-append l (x ∷ [])

-- a part that ends at a place or before it is the same in the list up to there
pub part-before : (p m a : ℕ) (l : List ℕ) → p + m ≤ a → take m (drop p (take a l)) ≡ take m (drop p l)
part-before zero zero a l h = refl
part-before zero (suc m) zero l h = absurd (omega arith)
part-before zero (suc m) (suc a) [] h = refl
part-before zero (suc m) (suc a) (x ∷ l) h = ap (λ (t : List ℕ). x ∷ t) (part-before zero m a l (omega arith))
part-before (suc p) m zero l h = absurd (omega arith)
part-before (suc p) m (suc a) [] h = refl
part-before (suc p) m (suc a) (x ∷ l) h = part-before p m a l (omega arith)

pub part_same : (p m a : ℕ) (l l' : List ℕ) → p + m ≤ a → take a l' ≡ take a l → take m (drop p l') ≡ take m (drop p l)
part_same p m a l l' h e = sym (part-before p m a l' h) ∙ ap (λ (t : List ℕ). take m (drop p t)) e ∙ part-before p m a l h
