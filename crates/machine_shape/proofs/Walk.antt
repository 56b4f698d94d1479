-- What a rule of nesting takes, the shapes go along with. Assumes nothing.
use mathlib.Core.Path.{◌≡◌, refl}
use mathlib.Core.Bool.{Bool, true, false, ◌||◌}
use mathlib.Core.List.{List, [], ◌∷◌, ◌++◌}
use Prim.Native.Nat.{ℕ}
use lib.Dec.{T, eqb}
use borrow.Author.Tests.{eqb-true}
use Rattle.lent.specs.Bytes.{one_of}
use Rattle.machine.specs.State.{State}
use Rattle.check_nesting.specs.Grammar.{Item, one, opt, any, chain}
use Rattle.check_nesting.specs.Nests.{Takes, nothing, one-taken, opt_none, opt-taken, any_none, any-taken, chain-none, chain-taken}
use Rattle.check_rules.proofs.Before.{clash}
use Rattle.machine_shape.specs.Shape.{Shape, seq, covers}
use Rattle.machine_shape.specs.Fits.{small, meets, steps, every, through, good_chain, good}
use Rattle.machine_shape.specs.Kinds.{contract_of}
use Rattle.machine_shape.proofs.Says.{both, each}

pub every-at : (f : ℕ → Bool) (ks : List ℕ) (k : ℕ) → one_of ks k ≡ true → T (every f ks) → T (f k)
every-at f [] k p t = clash p refl
every-at f (l ∷ ks) k p t = at (eqb k l) refl p (λ q. every-at f ks k q u.1)
  where
    u : T (f l) × T (every f ks)
    u = both (f l) (every f ks) t

    at : (x : Bool) → eqb k l ≡ x → (x || one_of ks k) ≡ true → (one_of ks k ≡ true → T (f k)) → T (f k)
    at true e q more = let i : k ≡ l = eqb-true k l e in rw i u.0
    at false e q more = more q

-- R is what a shape says of two states: `Rel`, or anything else that follows from a shape which covers another
module _ (R : Shape → State → State → Type 0) (less : (x y : Shape) (b s : State) → T (covers x y) → R x b s → R y b s) where
  abbrev pub Weaker : Shape → Shape → Type 0
  Weaker x w = (b s : State) → R x b s → R w b s

  -- children of these kinds lead from a shape to another
  abbrev pub Walk : ℕ → List ℕ → Shape → Shape → Type 0
  Walk n [] x y = Weaker x y
  Walk n (k ∷ ks) x y = (w : Shape) × Weaker x w × T (meets w (contract_of k)) × T (small n (seq w (contract_of k).does)) × Walk n ks (seq w (contract_of k).does) y

  pub walk_split : (n : ℕ) (ks ls : List ℕ) (x y : Shape) → Walk n (ks ++ ls) x y → (z : Shape) × Walk n ks x z × Walk n ls z y
  walk_split n [] ls x y w = (x, λ b s h. h, w)
  walk_split n (k ∷ ks) ls x y (v, i, j, l, w) = let r = walk_split n ks ls (seq v (contract_of k).does) y w in (r.0, (v, i, j, l, r.1), r.2)

  walk-weak : (n : ℕ) (ks : List ℕ) (x w y : Shape) → Weaker x w → Walk n ks w y → Walk n ks x y
  walk-weak n [] x w y i v = λ b s h. v b s (i b s h)
  walk-weak n (k ∷ ks) x w y i (v, j, l, m, r) = (v, λ b s h. j b s (i b s h), l, m, r)

  covered : (x y : Shape) → T (covers x y) → Weaker x y
  covered x y t b s h = less x y b s t h

  module _ (n : ℕ) (f : Shape → Bool) where
    -- as the test says it; behind any number of children the shape stays
    abbrev Good : List Item → Shape → Type 0
    Good [] x = T (good contract_of n [] x f)
    Good (one ks ∷ items) x = T (good contract_of n (one ks ∷ items) x f)
    Good (opt ks ∷ items) x = T (good contract_of n (opt ks ∷ items) x f)
    Good (any ks ∷ items) x = (w : Shape) × Weaker x w × T (every (λ k. steps n w (contract_of k) (λ y. covers y w)) ks) × T (good contract_of n items w f)
    Good (chain ks ∷ items) x = T (good contract_of n (chain ks ∷ items) x f)

    good-as : (items : List Item) (x : Shape) → T (good contract_of n items x f) → Good items x
    unfolding good
    good-as [] x t = t
    good-as (one ks ∷ items) x t = t
    good-as (opt ks ∷ items) x t = t
    good-as (any ks ∷ items) x t =
        let p = each (covers x (through contract_of n ks x) ∷ every (λ k. steps n (through contract_of n ks x) (contract_of k) (λ y. covers y (through contract_of n ks x))) ks ∷ good contract_of n items (through contract_of n ks x) f ∷ []) t in
        (through contract_of n ks x, covered x (through contract_of n ks x) p.0, p.1.0, p.1.1.0)
    good-as (chain ks ∷ items) x t = t

    abbrev Found : List ℕ → Shape → Type 0
    Found ks x = (y : Shape) × Walk n ks x y × T (f y)

    -- one child
    taken : (k : ℕ) (ks : List ℕ) (x w : Shape) (g : Shape → Bool) → Weaker x w → T (steps n w (contract_of k) g) → (T (g (seq w (contract_of k).does)) → Found ks (seq w (contract_of k).does)) → Found (k ∷ ks) x
    taken k ks x w g i t more =
        let p = each (meets w (contract_of k) ∷ small n (seq w (contract_of k).does) ∷ g (seq w (contract_of k).does) ∷ []) t in
        let r = more p.1.1.0 in
        (r.0, (w, i, p.0, p.1.0, r.1), r.2)

    chain-end : (ks : List ℕ) (g : Shape → Bool) (x : Shape) → T (good_chain contract_of n ks g x) → T (g x)
    chain-end [] g x t = t
    chain-end (k ∷ ks) g x t = (both (g x) (steps n x (contract_of k) (good_chain contract_of n ks g)) t).0

    walks : {items : List Item} {ks : List ℕ} → Takes items ks → (x : Shape) → Good items x → Found ks x
    unfolding good
    walks nothing x t = (x, λ b s h. h, t)
    walks (one-taken {k} {ks} {cs} {is = items} m r) x t =
        taken k cs x x (λ y. good contract_of n items y f) (λ b s h. h) (every-at (λ k. steps n x (contract_of k) (λ y. good contract_of n items y f)) ks k m t) (λ u. walks r (seq x (contract_of k).does) (good-as items (seq x (contract_of k).does) u))
    walks (opt_none {ks} {is = items} r) x t =
        walks r x (good-as items x (both (good contract_of n items x f) (every (λ k. steps n x (contract_of k) (λ y. good contract_of n items y f)) ks) t).0)
    walks (opt-taken {k} {ks} {cs} {is = items} m r) x t =
        taken k cs x x (λ y. good contract_of n items y f) (λ b s h. h) (every-at (λ k. steps n x (contract_of k) (λ y. good contract_of n items y f)) ks k m (both (good contract_of n items x f) (every (λ k. steps n x (contract_of k) (λ y. good contract_of n items y f)) ks) t).1) (λ u. walks r (seq x (contract_of k).does) (good-as items (seq x (contract_of k).does) u))
    walks (any_none {cs} {is = items} r) x (w, i, e, t) = let q = walks r w (good-as items w t) in (q.0, walk-weak n cs x w q.0 i q.1, q.2)
    walks (any-taken {k} {ks} {cs} m r) x (w, i, e, t) =
        taken k cs x w (λ y. covers y w) i (every-at (λ k. steps n w (contract_of k) (λ y. covers y w)) ks k m e) (λ u. walks r (seq w (contract_of k).does) (w, covered (seq w (contract_of k).does) w u, e, t))
    walks (chain-none {ks} {is = items} r) x t = walks r x (good-as items x (chain-end ks (λ y. good contract_of n items y f) x t))
    walks (chain-taken {k} {ks} {cs} {is = items} r) x t =
        taken k cs x x (good_chain contract_of n ks (λ y. good contract_of n items y f)) (λ b s h. h) (both (good contract_of n items x f) (steps n x (contract_of k) (good_chain contract_of n ks (λ y. good contract_of n items y f))) t).1 (λ u. walks r (seq x (contract_of k).does) u)

    pub takes-walk : {items : List Item} {ks : List ℕ} → Takes items ks → (x : Shape) → T (good contract_of n items x f) → Found ks x
    takes-walk {items} r x t = walks r x (good-as items x t)
