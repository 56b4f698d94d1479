-- What the items ask for, `next` takes, since no child may be taken in two ways. Assumes nothing.
use Rattle.std.proofs.Common.{if◌then◌else◌, ◌≡◌, refl, sym, ap, ◌∙◌, Bool, true, false, not, ◌&&◌, ◌||◌, List, [], ◌∷◌, ℕ, eqb, eq-eqb, eqb-true}
use mathlib.Core.Bool.{or-true, false≢true}
use borrow.Author.Tests.{not-true}
use Rattle.lent.specs.Bytes.{one_of, all, mapped}
use Rattle.lent.proofs.Laws.{and_left, and_right}
use Rattle.check_nesting.specs.Grammar.{Item, one, opt, any, chain, name_of, Rule, rules, holds_by, holds}
use Rattle.check_nesting.specs.Nests.{Takes, nothing, one-taken, opt_none, opt-taken, any_none, any-taken, chain-none, chain-taken}
use Rattle.check_nesting.specs.Pass.{Taken, refuse, take, among, next, done}

-- ---- no child may be taken in two ways

-- no two of ks have one name
abbrev pub unlike : List ℕ → Bool
unlike [] = true
unlike (k ∷ ks) = not (one_of (mapped name_of ks) (name_of k)) && unlike ks

abbrev pub is_refused : Taken → Bool
is_refused refuse = true
is_refused (take k r) = false

-- the items take none of the names of ks
abbrev pub spare : List Item → List ℕ → Bool
spare is ks = all (λ k. is_refused (next is (name_of k))) ks

abbrev pub clear : List Item → Bool
clear [] = true
clear (one ks ∷ is) = unlike ks && clear is
clear (opt ks ∷ is) = unlike ks && (spare is ks && clear is)
clear (any ks ∷ is) = unlike ks && (spare is ks && clear is)
clear (chain [] ∷ is) = clear is
clear (chain (k ∷ ks) ∷ is) = spare is (k ∷ []) && clear (chain ks ∷ is)

-- a test that holds of each rule holds of what each kind holds
abbrev pub all_rules : (List Item → Bool) → List Rule → Bool
all_rules f [] = true
all_rules f (r ∷ rs) = f r.holds && all_rules f rs

by-rules : (f : List Item → Bool) → f [] ≡ true → (rs : List Rule) → all_rules f rs ≡ true → (k : ℕ) → f (holds_by rs k) ≡ true
by-rules f z [] e k = z
by-rules f z (r ∷ rs) e k = pick (one_of r.kinds k) (and_left (f r.holds) (all_rules f rs) e) (by-rules f z rs (and_right (f r.holds) (all_rules f rs) e) k)
  where
    pick : (t : Bool) → f r.holds ≡ true → f (holds_by rs k) ≡ true → f (if t then r.holds else holds_by rs k) ≡ true
    pick true h i = h
    pick false h i = i

pub each_holds : (f : List Item → Bool) → f [] ≡ true → all_rules f rules ≡ true → (k : ℕ) → f (holds k) ≡ true
unfolding holds
each_holds f z e k = by-rules f z rules e k

pub clear-holds : (k : ℕ) → clear (holds k) ≡ true
unfolding rules
clear-holds k = each_holds clear refl refl k

-- ---- so the child that the items ask for is the one that `next` takes

impossible : {A : Type 0} → false ≡ true → A
impossible e = absurd (false≢true e)

one-named : (ks : List ℕ) (k : ℕ) → one_of ks k ≡ true → one_of (mapped name_of ks) (name_of k) ≡ true
one-named [] k m = m
one-named (j ∷ ks) k m = pick (eqb k j) refl m (one-named ks k)
  where
    pick : (t : Bool) → eqb k j ≡ t → (t || one_of ks k) ≡ true → (one_of ks k ≡ true → one_of (mapped name_of ks) (name_of k) ≡ true)
        → (eqb (name_of k) (name_of j) || one_of (mapped name_of ks) (name_of k)) ≡ true
    pick true p m i = rw (eq-eqb (name_of k) (name_of j) (ap name_of (eqb-true k j p)))
    pick false p m i = rw (i m) (or-true (eqb (name_of k) (name_of j)))

picked : (ks : List ℕ) (k : ℕ) (b : List Item) (o : Taken) → unlike ks ≡ true → one_of ks k ≡ true → among ks (name_of k) b o ≡ take k b
picked [] k b o u m = impossible m
picked (j ∷ ks) k b o u m = pick (eqb k j) (eqb (name_of j) (name_of k)) refl refl m (picked ks k b o (and_right (not (one_of (mapped name_of ks) (name_of j))) (unlike ks) u))
  where
    other : one_of (mapped name_of ks) (name_of j) ≡ false
    other = not-true (one_of (mapped name_of ks) (name_of j)) (and_left (not (one_of (mapped name_of ks) (name_of j))) (unlike ks) u)

    pick : (t s : Bool) → eqb k j ≡ t → eqb (name_of j) (name_of k) ≡ s → (t || one_of ks k) ≡ true → (one_of ks k ≡ true → among ks (name_of k) b o ≡ take k b)
        → (if s then take j b else among ks (name_of k) b o) ≡ take k b
    pick true s p e m i =
        let q = eqb-true k j p in
        rw (← e, eq-eqb (name_of j) (name_of k) (ap name_of (sym q))) (ap (λ (x : ℕ). take x b) (sym q))
    pick false true p e m i = impossible (sym other ∙ rw (eqb-true (name_of j) (name_of k) e) (one-named ks k m))
    pick false false p e m i = i m

passed : (ks : List ℕ) (is : List Item) (n : ℕ) (b : List Item) {k : ℕ} {r : List Item} → spare is ks ≡ true → next is n ≡ take k r → among ks n b (next is n) ≡ take k r
passed [] is n b s e = e
passed (j ∷ ks) is n b {k} {r} s e = pick (eqb (name_of j) n) refl (passed ks is n b (and_right (is_refused (next is (name_of j))) (spare is ks) s) e)
  where
    taken_refused : name_of j ≡ n → false ≡ true
    taken_refused p = ap is_refused (sym e) ∙ rw (← p) (and_left (is_refused (next is (name_of j))) (spare is ks) s)

    pick : (t : Bool) → eqb (name_of j) n ≡ t → among ks n b (next is n) ≡ take k r → (if t then take j b else among ks n b (next is n)) ≡ take k r
    pick true p i = impossible (taken_refused (eqb-true (name_of j) n p))
    pick false p i = i

-- a child that the items ask for, and what they ask for behind it
pub record Asked (q : List Item) (k : ℕ) (cs : List ℕ) : Type 0 where
  pub left : List Item
  pub goes : next q (name_of k) ≡ take k left
  pub more : Takes left cs

module _ (ks : List ℕ) (is : List Item) where
  abbrev pub Clear : Type 0
  Clear = (unlike ks && (spare is ks && clear is)) ≡ true

  first : Clear → unlike ks ≡ true
  first c = and_left (unlike ks) (spare is ks && clear is) c

  others : Clear → spare is ks ≡ true
  others c = and_left (spare is ks) (clear is) (and_right (unlike ks) (spare is ks && clear is) c)

  pub last : Clear → clear is ≡ true
  last c = and_right (spare is ks) (clear is) (and_right (unlike ks) (spare is ks && clear is) c)

pub behind-chain : (ks : List ℕ) (is : List Item) → clear (chain ks ∷ is) ≡ true → clear is ≡ true
behind-chain [] is c = c
behind-chain (k ∷ ks) is c = behind-chain ks is (and_right (spare is (k ∷ [])) (clear (chain ks ∷ is)) c)

pub asked : {q : List Item} {k : ℕ} {cs : List ℕ} → Takes q (k ∷ cs) → clear q ≡ true → Asked q k cs
asked (one-taken {k} {ks} {cs} {is} m t) c = record { left = is; goes = picked ks k is refuse (and_left (unlike ks) (clear is) c) m; more = t }
asked (opt_none {ks} {is = is} t) c = let a = asked t (last ks is c) in record { left = a.left; goes = passed ks is _ is (others ks is c) a.goes; more = a.more }
asked (opt-taken {k} {ks} {cs} {is} m t) c = record { left = is; goes = picked ks k is (next is (name_of k)) (first ks is c) m; more = t }
asked (any_none {ks} {is = is} t) c = let a = asked t (last ks is c) in record { left = a.left; goes = passed ks is _ (any ks ∷ is) (others ks is c) a.goes; more = a.more }
asked (any-taken {k} {ks} {cs} {is} m t) c = record { left = any ks ∷ is; goes = picked ks k (any ks ∷ is) (next is (name_of k)) (first ks is c) m; more = t }
asked (chain-none {ks = []} t) c = let a = asked t c in record { left = a.left; goes = a.goes; more = a.more }
asked (chain-none {ks = j ∷ ks} {is = is} t) c =
    let a = asked t (behind-chain ks is (and_right (spare is (j ∷ [])) (clear (chain ks ∷ is)) c)) in
    record { left = a.left; goes = passed (j ∷ []) is _ (chain ks ∷ is) (and_left (spare is (j ∷ [])) (clear (chain ks ∷ is)) c) a.goes; more = a.more }
asked (chain-taken {k} {ks} {cs} {is} t) c = record { left = chain ks ∷ is; goes = picked (k ∷ []) k (chain ks ∷ is) (next is (name_of k)) refl (rw (eq-eqb k k refl)); more = t }

pub asked-none : {q : List Item} → Takes q [] → done q ≡ true
asked-none nothing = refl
asked-none (opt_none t) = asked-none t
asked-none (any_none t) = asked-none t
asked-none (chain-none t) = asked-none t
