-- An element's children as a list. Assumes nothing.
use Rattle.std.proofs.Common.{Some, None}
use Rattle.std.specs.Prelude.{if◌then◌else◌}
use mathlib.Core.Path.{◌≡◌, refl, sym, ap, ◌∙◌}
use mathlib.Core.Bool.{Bool, true, false, not, ◌||◌}
use mathlib.Core.Logic.{◌⊎◌, inl, inr}
use mathlib.Core.List.{List, [], ◌∷◌, ◌++◌}
use mathlib.Core.Option.{none}
use Prim.Native.Nat.{ℕ}
use native.Mathlib.Omega.{arith}
use lib.Dec.{T, eqb, leb}
use borrow.Author.Tests.{le-leb, lt-leb, eqb-true}
use Rattle.lent.specs.Bytes.{one_of}
use Rattle.check_labels.specs.Labels.{Part, or_else}
use Rattle.check_nesting.specs.Grammar.{Item, one, opt, name_of}
use Rattle.check_nesting.specs.Nests.{Takes, nothing, one-taken, opt_none, opt-taken}
use Rattle.check_rules.specs.Elements.{Forest, nil, element, child_of, grandchild_of}
use Rattle.check_rules.proofs.Before.{clash}
use Rattle.machine_shape.specs.Fits.{every}
use Rattle.machine_shape.specs.Grown.{Kinds, none, through, child}
use Rattle.machine_shape.proofs.Says.{both}
use Rattle.machine_never.specs.Values.{Ids}
use Rattle.machine_never.specs.Ghost.{effects_at, ids_run, ids_over, Top, tops, child_top, grand_top, ids_tops, AreKinds}
use Rattle.machine_never.proofs.Inert.{thin-runs}

or-else : (x y z : Part) → or_else (or_else x y) z ≡ or_else x (or_else y z)
or-else (Some (from, to)) y z = refl
or-else None y z = refl

child-join : (n : ℕ) (xs ys : List Top) → child_top n (xs ++ ys) ≡ or_else (child_top n xs) (child_top n ys)
child-join n [] ys = refl
child-join n (x ∷ xs) ys = at (eqb x.enter.name n) (child-join n xs ys)
  where
    at : (b : Bool) → child_top n (xs ++ ys) ≡ or_else (child_top n xs) (child_top n ys) → (if b then Some (x.exit.from.0, x.exit.to.0) else child_top n (xs ++ ys)) ≡ or_else (if b then Some (x.exit.from.0, x.exit.to.0) else child_top n xs) (child_top n ys)
    at true h = refl
    at false h = h

grand-join : (n : ℕ) (xs ys : List Top) → grand_top n (xs ++ ys) ≡ or_else (grand_top n xs) (grand_top n ys)
grand-join n [] ys = refl
grand-join n (x ∷ xs) ys = ap (or_else (child_of n x.inside)) (grand-join n xs ys) ∙ sym (or-else (child_of n x.inside) (grand_top n xs) (grand_top n ys))

pub child-tops : (n : ℕ) (f : Forest) → child_of n f ≡ child_top n (tops f)
child-tops n nil = refl
child-tops n (element a f z g) = at (leb a.name 4) (child-tops n f) (child-tops n g)
  where
    at : (b : Bool) → child_of n f ≡ child_top n (tops f) → child_of n g ≡ child_top n (tops g)
        → (if b then or_else (child_of n f) (child_of n g) else (if eqb a.name n then Some (z.from.0, z.to.0) else child_of n g)) ≡ child_top n (if b then tops f ++ tops g else record { enter = a; inside = f; exit = z } ∷ tops g)
    at true h k = rw (h, k) (sym (child-join n (tops f) (tops g)))
    at false h k = rw k refl

pub grand-tops : (n : ℕ) (f : Forest) → grandchild_of n f ≡ grand_top n (tops f)
grand-tops n nil = refl
grand-tops n (element a f z g) = at (leb a.name 4) (grand-tops n f) (grand-tops n g)
  where
    at : (b : Bool) → grandchild_of n f ≡ grand_top n (tops f) → grandchild_of n g ≡ grand_top n (tops g)
        → (if b then or_else (grandchild_of n f) (grandchild_of n g) else or_else (child_of n f) (grandchild_of n g)) ≡ grand_top n (if b then tops f ++ tops g else record { enter = a; inside = f; exit = z } ∷ tops g)
    at true h k = rw (h, k) (sym (grand-join n (tops f) (tops g)))
    at false h k = rw k refl

ids-join : (xs ys : List Top) (is : List Ids) → ids_tops (xs ++ ys) is ≡ ids_tops ys (ids_tops xs is)
ids-join [] ys is = refl
ids-join (x ∷ xs) ys is = ids-join xs ys (ids_run x.exit (effects_at x.exit) (ids_over x.inside (ids_run x.enter (effects_at x.enter) is)))

kinds-join : (ks ls : List ℕ) (xs ys : List Top) → AreKinds ks xs → AreKinds ls ys → AreKinds (ks ++ ls) (xs ++ ys)
kinds-join [] ls [] ys h k = k
kinds-join [] ls (x ∷ xs) ys h k = absurd h
kinds-join (j ∷ ks) ls [] ys h k = absurd h
kinds-join (j ∷ ks) ls (x ∷ xs) ys h k = (h.0, kinds-join ks ls xs ys h.1 k)

pub ids-tops : {ks : List ℕ} {f : Forest} → Kinds ks f → (is : List Ids) → ids_over f is ≡ ids_tops (tops f) is
ids-tops none is = refl
ids-tops (through {a} {z} {f = f} {g} m r c d) is =
    let t = thin-runs a z is (ids_over f is) m r in
    let p : leb a.name 4 ≡ true = le-leb a.name 4 m in
    ap (λ (l : List Ids). ids_over g (ids_run z (effects_at z) (ids_over f l))) t.0 ∙ ap (ids_over g) t.1 ∙ ids-tops d (ids_over f is) ∙ ap (ids_tops (tops g)) (ids-tops c is) ∙ sym (ids-join (tops f) (tops g) is) ∙ rw p refl
ids-tops (child {a} {z} {k} {f = f} {g} e l r w c d) is =
    let p : leb a.name 4 ≡ false = lt-leb a.name 4 (omega arith) in
    ids-tops d (ids_run z (effects_at z) (ids_over f (ids_run a (effects_at a) is))) ∙ rw p refl

pub kinds-tops : {ks : List ℕ} {f : Forest} → Kinds ks f → AreKinds ks (tops f)
kinds-tops none = tt
kinds-tops (through {a} {ks = ks} {ls} {f} {g} m r c d) =
    let p : leb a.name 4 ≡ true = le-leb a.name 4 m in
    rw p (kinds-join ks ls (tops f) (tops g) (kinds-tops c) (kinds-tops d))
kinds-tops (child {a} {z} {k} {ks = ks} {f = f} e l r w c d) =
    let p : leb a.name 4 ≡ false = lt-leb a.name 4 (omega arith) in
    rw p (record { named = e; five = l; pair = r; inner = ks; takes = w; kinds = c }, kinds-tops d)

-- no child of these kinds is named so
pub absent : (n : ℕ) (ks : List ℕ) (xs : List Top) → AreKinds ks xs → T (every (λ k. not (eqb (name_of k) n)) ks) → child_top n xs ≡ None
absent n [] [] h t = refl
absent n [] (x ∷ xs) h t = absurd h
absent n (k ∷ ks) [] h t = absurd h
absent n (k ∷ ks) (x ∷ xs) h t =
    let p = both (not (eqb (name_of k) n)) (every (λ k. not (eqb (name_of k) n)) ks) t in
    let q : eqb x.enter.name n ≡ false = rw h.0.named (failed (eqb (name_of k) n) p.0) in
    rw q (absent n ks xs h.1 p.1)
  where
    failed : (x : Bool) → T (not x) → x ≡ false
    failed true t = absurd t
    failed false t = refl

pub absent-in : (n : ℕ) {ks : List ℕ} {f : Forest} → Kinds ks f → T (every (λ k. not (eqb (name_of k) n)) ks) → child_of n f ≡ None
absent-in n {ks} {f} c t = child-tops n f ∙ absent n ks (tops f) (kinds-tops c) t

-- ---- what a rule takes

pub takes_one : (ks : List ℕ) (items : List Item) (cs : List ℕ) → Takes (one ks ∷ items) cs → (k : ℕ) × (ds : List ℕ) × (one_of ks k ≡ true) × (cs ≡ k ∷ ds) × Takes items ds
takes_one ks items cs (one-taken {k} {cs = ds} m r) = (k, ds, m, refl, r)

pub takes-opt : (ks : List ℕ) (items : List Item) (cs : List ℕ) → Takes (opt ks ∷ items) cs → Takes items cs ⊎ (k : ℕ) × (ds : List ℕ) × (one_of ks k ≡ true) × (cs ≡ k ∷ ds) × Takes items ds
takes-opt ks items cs (opt_none r) = inl r
takes-opt ks items cs (opt-taken {k} {cs = ds} m r) = inr (k, ds, m, refl, r)

pub takes_none : (cs : List ℕ) → Takes [] cs → cs ≡ []
takes_none cs nothing = refl

pub only : (n k : ℕ) → one_of (n ∷ []) k ≡ true → k ≡ n
only n k h = at (eqb k n) refl h
  where
    at : (x : Bool) → eqb k n ≡ x → (x || false) ≡ true → k ≡ n
    at true e q = eqb-true k n e
    at false e q = clash q refl

pub one_of_two : (m n k : ℕ) → one_of (m ∷ n ∷ []) k ≡ true → (k ≡ m) ⊎ (k ≡ n)
one_of_two m n k h = at (eqb k m) refl h
  where
    at : (x : Bool) → eqb k m ≡ x → (x || one_of (n ∷ []) k) ≡ true → (k ≡ m) ⊎ (k ≡ n)
    at true e q = inl (eqb-true k m e)
    at false e q = inr (only n k q)
