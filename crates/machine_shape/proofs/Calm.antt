-- A definition holds no definition. Assumes nothing.
use mathlib.Core.Path.{◌≡◌, refl}
use mathlib.Core.Bool.{Bool, true, false, not, ◌&&◌, ◌||◌}
use mathlib.Core.List.{List, [], ◌∷◌, ◌++◌}
use Prim.Native.Nat.{ℕ, ◌≤◌}
use native.Mathlib.Omega.{arith}
use lib.Dec.{T, eqb}
use borrow.Author.Tests.{ne_eqb}
use Rattle.lent.specs.Bytes.{one_of}
use Rattle.check_nesting.specs.Grammar.{Item, one, opt, any, chain, name_of, holds, rules, whole, kind_count}
use Rattle.check_nesting.specs.Nests.{Takes, nothing, one-taken, opt_none, opt-taken, any_none, any-taken, chain-none, chain-taken}
use Rattle.check_rules.specs.Elements.{Forest, Paired}
use Rattle.check_rules.proofs.Before.{clash}
use Rattle.machine_shape.specs.Fits.{every}
use Rattle.machine_shape.specs.Kinds.{below}
use Rattle.machine_shape.specs.Grown.{Kinds, none, through, child}
use Rattle.machine_shape.specs.Pass.{NoDefinition}
use Rattle.machine_shape.proofs.Says.{both}
use Rattle.machine_shape.proofs.Test.{computed, kind-below}
use Rattle.machine_shape.proofs.Walk.{every-at}

-- ---- what holds of all kinds in a rule holds of the kinds that it takes

abbrev pub kinds_of : Item → List ℕ
kinds_of (one ks) = ks
kinds_of (opt ks) = ks
kinds_of (any ks) = ks
kinds_of (chain ks) = ks

join : (a b : Bool) → T a → T b → T (a && b)
join true b i j = j
join false b i j = absurd i

module _ (c : ℕ → Bool) where
  abbrev pub every_item : List Item → Bool
  every_item [] = true
  every_item (i ∷ items) = every c (kinds_of i) && every_item items

  pub kinds-taken : {items : List Item} {ks : List ℕ} → Takes items ks → T (every_item items) → T (every c ks)
  kinds-taken nothing t = tt
  kinds-taken (one-taken {k} {ks} {cs} {is = items} m r) t = let p = both (every c ks) (every_item items) t in join (c k) (every c cs) (every-at c ks k m p.0) (kinds-taken r p.1)
  kinds-taken (opt_none {ks} {is = items} r) t = kinds-taken r (both (every c ks) (every_item items) t).1
  kinds-taken (opt-taken {k} {ks} {cs} {is = items} m r) t = let p = both (every c ks) (every_item items) t in join (c k) (every c cs) (every-at c ks k m p.0) (kinds-taken r p.1)
  kinds-taken (any_none {ks} {is = items} r) t = kinds-taken r (both (every c ks) (every_item items) t).1
  kinds-taken (any-taken {k} {ks} {cs} {is = items} m r) t = join (c k) (every c cs) (every-at c ks k m (both (every c ks) (every_item items) t).0) (kinds-taken r t)
  kinds-taken (chain-none {ks} {is = items} r) t = kinds-taken r (both (every c ks) (every_item items) t).1
  kinds-taken (chain-taken {k} {ks} {cs} {is = items} r) t =
      let p = both (every c (k ∷ ks)) (every_item items) t in
      let q = both (c k) (every c ks) p.0 in
      join (c k) (every c cs) q.0 (kinds-taken r (join (every c ks) (every_item items) q.1 p.1))

  pub every-split : (ks ls : List ℕ) → T (every c (ks ++ ls)) → T (every c ks) × T (every c ls)
  every-split [] ls t = (tt, t)
  every-split (k ∷ ks) ls t = let p = both (c k) (every c (ks ++ ls)) t in let q = every-split ks ls p.1 in (join (c k) (every c ks) p.0 q.0, q.1)

-- any kind
abbrev pub any_kind : ℕ → Bool
any_kind k = true

pub any-items : (items : List Item) → T (every_item any_kind items)
any-items [] = tt
any-items (i ∷ items) = join (every any_kind (kinds_of i)) (every_item any_kind items) (any-kinds (kinds_of i)) (any-items items)
  where
    any-kinds : (ks : List ℕ) → T (every any_kind ks)
    any-kinds [] = tt
    any-kinds (k ∷ ks) = any-kinds ks

pub all_any : {items : List Item} {ks : List ℕ} → Takes items ks → T (every any_kind ks)
all_any {items} w = kinds-taken any_kind w (any-items items)

-- ---- definitions

-- what a definition and its parts hold
abbrev pub calm : ℕ → Bool
calm k = one_of (5 ∷ 6 ∷ 7 ∷ 8 ∷ 9 ∷ 10 ∷ 11 ∷ 54 ∷ 55 ∷ 56 ∷ []) k

abbrev stays_calm : ℕ → Bool
stays_calm k = not (calm k) || (every_item calm (holds k) && not (eqb (name_of k) 53))

all-calm : T (below kind_count stays_calm)
unfolding holds rules
all-calm = tt

definition-calm : T (every_item calm (holds 53))
unfolding holds rules
definition-calm = tt

pub then : (x y : Bool) → T (not x || y) → T x → T y
then true y t i = t
then false y t i = absurd i

failed : (x : Bool) → T (not x) → x ≡ false
failed true t = absurd t
failed false t = refl

pub calm-forest : {ks : List ℕ} {f : Forest} → Kinds ks f → T (every calm ks) → NoDefinition f
calm-forest none t = tt
calm-forest (through {a} {ks} {ls} m r c d) t = let p = every-split calm ks ls t in (ne_eqb a.name 53 (λ e. absurd (omega arith)), calm-forest c p.0, calm-forest d p.1)
calm-forest (child {a} {k} {ls} e l r w c d) t =
    let p = both (calm k) (every calm ls) t in
    let q = both (every_item calm (holds k)) (not (eqb (name_of k) 53)) (then (calm k) (every_item calm (holds k) && not (eqb (name_of k) 53)) (computed stays_calm kind_count all-calm k (kind-below k l)) p.0) in
    (rw e (failed (eqb (name_of k) 53) q.1), calm-forest c (kinds-taken calm w q.0), calm-forest d p.1)

pub calm-inside : {ks : List ℕ} → Takes (holds 53) ks → T (every calm ks)
calm-inside w = kinds-taken calm w definition-calm

pub calm-closed : (k : ℕ) → 5 ≤ name_of k → T (calm k) → T (every_item calm (holds k))
calm-closed k l t = (both (every_item calm (holds k)) (not (eqb (name_of k) 53)) (then (calm k) (every_item calm (holds k) && not (eqb (name_of k) 53)) (computed stays_calm kind_count all-calm k (kind-below k l)) t)).0

-- what a definition holds
pub in-definition : {ks : List ℕ} {f : Forest} → Takes (holds 53) ks → Kinds ks f → NoDefinition f
in-definition w c = calm-forest c (kinds-taken calm w definition-calm)

-- ---- and a definition's parts stand nowhere else

abbrev pub loose : ℕ → Bool
loose k = not (one_of (54 ∷ 55 ∷ 56 ∷ []) k)

abbrev stays_loose : ℕ → Bool
stays_loose k = not (loose k) || (not (eqb (name_of k) 54) && (eqb (name_of k) 53 || every_item loose (holds k)))

all-loose : T (below kind_count stays_loose)
unfolding holds rules
all-loose = tt

pub loose-whole : {ks : List ℕ} → Takes whole ks → T (every loose ks)
loose-whole w = kinds-taken loose w tt

pub loose-name : (k : ℕ) → 5 ≤ name_of k → T (loose k) → eqb (name_of k) 54 ≡ false
loose-name k l t =
    let p = then (loose k) (not (eqb (name_of k) 54) && (eqb (name_of k) 53 || every_item loose (holds k))) (computed stays_loose kind_count all-loose k (kind-below k l)) t in
    failed (eqb (name_of k) 54) (both (not (eqb (name_of k) 54)) (eqb (name_of k) 53 || every_item loose (holds k)) p).0

pub loose-inside : (k : ℕ) {ks : List ℕ} → 5 ≤ name_of k → T (loose k) → eqb (name_of k) 53 ≡ false → Takes (holds k) ks → T (every loose ks)
loose-inside k l t n w =
    let p = then (loose k) (not (eqb (name_of k) 54) && (eqb (name_of k) 53 || every_item loose (holds k))) (computed stays_loose kind_count all-loose k (kind-below k l)) t in
    let q = (both (not (eqb (name_of k) 54)) (eqb (name_of k) 53 || every_item loose (holds k)) p).1 in
    kinds-taken loose w (at (eqb (name_of k) 53) n q)
  where
    at : (x : Bool) → x ≡ false → T (x || every_item loose (holds k)) → T (every_item loose (holds k))
    at true e g = clash refl e
    at false e g = g

pub paired : {ks : List ℕ} {f : Forest} → Kinds ks f → Paired f
paired none = tt
paired (through m r c d) = (r, paired c, paired d)
paired (child e l r w c d) = (r, paired c, paired d)
