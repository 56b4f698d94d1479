-- What `next` takes, the items ask for; and names that nothing has. Assumes nothing.
use Rattle.std.proofs.Common.{if◌then◌else◌, ◌≡◌, refl, sym, ap, ◌∙◌, ◌⊎◌, inl, inr, ⊎_elim, Bool, true, false, List, [], ◌∷◌, ℕ, zero, suc, ◌-◌, ◌≤◌, ◌<◌, arith, eqb, ltb, get_or, eq-eqb, eqb-true, ltb-true}
use mathlib.Core.Bool.{or-true, or-false, false≢true}
use Rattle.lent.specs.Bytes.{one_of}
use Rattle.check_nesting.specs.Grammar.{Item, one, opt, any, chain, name_of, name_count, second_names}
use Rattle.check_nesting.specs.Nests.{Takes, nothing, one-taken, opt_none, opt-taken, any_none, any-taken, chain-none, chain-taken}
use Rattle.check_nesting.specs.Pass.{Taken, refuse, take, among, next, done}

pub refuse-take : {A : Type 0} {k : ℕ} {r : List Item} → refuse ≡ take k r → A
refuse-take e = let z : ◌≡◌ {A = ℕ} 0 1 = cc in absurd (omega arith)

-- k is one of ks and named n, with what may come behind it
pub record Found (ks : List ℕ) (n : ℕ) (behind : List Item) (k : ℕ) (r : List Item) : Type 0 where
  pub one-of : one_of ks k ≡ true
  pub named : name_of k ≡ n
  pub same : r ≡ behind

pub found : (ks : List ℕ) (n : ℕ) (b : List Item) (o : Taken) {k : ℕ} {r : List Item} → among ks n b o ≡ take k r → Found ks n b k r ⊎ (o ≡ take k r)
found [] n b o e = inr e
found (j ∷ ks) n b o {k} {r} e = pick (found ks n b o) (eqb (name_of j) n) refl e
  where
    later : Found ks n b k r → Found (j ∷ ks) n b k r
    later f = record { one-of = rw f.one-of (or-true (eqb k j)); named = f.named; same = f.same }

    pick : (among ks n b o ≡ take k r → Found ks n b k r ⊎ (o ≡ take k r))
        → (t : Bool) → eqb (name_of j) n ≡ t → (if t then take j b else among ks n b o) ≡ take k r → Found (j ∷ ks) n b k r ⊎ (o ≡ take k r)
    pick i true p e =
        let q : j ≡ k = cc in
        inl (record { one-of = rw (eq-eqb k j (sym q)); named = ap name_of (sym q) ∙ eqb-true (name_of j) n p; same = cc })
    pick i false p e = ⊎_elim (λ f. inl (later f)) (λ h. inr h) (i e)

pub taken : (q : List Item) (n : ℕ) {k : ℕ} {r : List Item} → next q n ≡ take k r → (name_of k ≡ n) × ((cs : List ℕ) → Takes r cs → Takes q (k ∷ cs))
taken [] n e = refuse-take e
taken (one ks ∷ is) n e = ⊎_elim (λ f. (f.named, λ cs t. one-taken f.one-of (rw f.same at t))) refuse-take (found ks n is refuse e)
taken (opt ks ∷ is) n e =
    ⊎_elim
    (λ f. (f.named, λ cs t. opt-taken f.one-of (rw f.same at t)))
    (λ h. let i = taken is n h in (i.0, λ cs t. opt_none (i.1 cs t)))
    (found ks n is (next is n) e)
taken (any ks ∷ is) n e =
    ⊎_elim
    (λ f. (f.named, λ cs t. any-taken f.one-of (rw f.same at t)))
    (λ h. let i = taken is n h in (i.0, λ cs t. any_none (i.1 cs t)))
    (found ks n (any ks ∷ is) (next is n) e)
taken (chain [] ∷ is) n e = let i = taken is n e in (i.0, λ cs t. chain-none (i.1 cs t))
taken (chain (j ∷ ks) ∷ is) n {k} e =
    ⊎_elim
    (λ f. let q = eqb-true k j (sym (or-false (eqb k j)) ∙ f.one-of) in (f.named, λ cs t. rw q (chain-taken (rw f.same at t))))
    (λ h. let i = taken is n h in (i.0, λ cs t. chain-none (i.1 cs t)))
    (found (j ∷ []) n (chain ks ∷ is) (next is n) e)

pub ends : (q : List Item) → done q ≡ true → Takes q []
ends [] e = nothing
ends (one ks ∷ is) e = absurd (false≢true e)
ends (opt ks ∷ is) e = opt_none (ends is e)
ends (any ks ∷ is) e = any_none (ends is e)
ends (chain ks ∷ is) e = chain-none (ends is e)

-- ---- names

other_name : (j : ℕ) → get_or second_names j 0 < name_count
other_name zero = omega arith
other_name (suc zero) = omega arith
other_name (suc (suc zero)) = omega arith
other_name (suc (suc (suc zero))) = omega arith
other_name (suc (suc (suc (suc j)))) = omega arith

name_below : (k : ℕ) → name_of k < name_count
name_below k = pick (ltb k name_count) refl
  where
    pick : (t : Bool) → ltb k name_count ≡ t → (if t then k else get_or second_names (k - name_count) 0) < name_count
    pick true p = ltb-true k name_count p
    pick false p = other_name (k - name_count)

-- others are no names
pub no_name : (q : List Item) (n : ℕ) → name_count ≤ n → next q n ≡ refuse
no_name q n h = pick (next q n) refl
  where
    pick : (t : Taken) → next q n ≡ t → t ≡ refuse
    pick refuse e = refl
    pick (take k r) e = let p = (taken q n e).0 in let l = name_below k in absurd (omega arith)
