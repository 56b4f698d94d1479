-- Laws of the open media's slices along lists and forests. Assumes nothing.
use mathlib.Core.Path.{◌≡◌, refl, ap, ◌∙◌}
use mathlib.Core.Bool.{false}
use mathlib.Core.List.{List, [], ◌∷◌}
use mathlib.Core.Option.{none}
use Prim.Native.Nat.{ℕ}
use lib.Dec.{T}
use Rattle.event.specs.declared.Event.{Event}
use Rattle.check_rules.specs.Elements.{Forest, nil, element}
use Rattle.machine_shape.specs.Grown.{none}
use Rattle.machine_shape.specs.Pass.{behind}
use Rattle.machine_shape.proofs.Says.{both}
use Rattle.machine_never.specs.Values.{Ids, Values, Effect, pushes, pops, names, refers, leads, seeks, defines, labels, notes, calls, unmarks, marks, ids3, ids_step, does_to, do_to}
use Rattle.machine_never.specs.Ghost.{effects_at, ids_run, ids_of, Prefix, ids_over, off, only_top, popping, all_effects, is_push, pops_last}

-- ---- along lists

pub ids-run : (text : List ℕ) (e : Event) (xs : List Effect) (v : Values) → (do_to text e xs v).ids ≡ ids_run e xs v.ids
ids-run text e [] v = refl
ids-run text e (x ∷ xs) v = ids-run text e xs (does_to text e x v)

prefix-step : (e : Event) (x : Effect) (is js : List Ids) → Prefix is js → Prefix (ids_step e x is) (ids_step e x js)
prefix-step e pushes is js p = (refl, p)
prefix-step e pops [] js p = tt
prefix-step e pops (i ∷ is) [] p = absurd p
prefix-step e pops (i ∷ is) (j ∷ js) p = p.1
prefix-step e names [] js p = tt
prefix-step e names (i ∷ is) [] p = absurd p
prefix-step e names (i ∷ is) (j ∷ js) p = (rw p.0 refl, p.1)
prefix-step e refers [] js p = tt
prefix-step e refers (i ∷ is) [] p = absurd p
prefix-step e refers (i ∷ is) (j ∷ js) p = (rw p.0 refl, p.1)
prefix-step e leads [] js p = tt
prefix-step e leads (i ∷ is) [] p = absurd p
prefix-step e leads (i ∷ is) (j ∷ js) p = (rw p.0 refl, p.1)
prefix-step e seeks [] js p = tt
prefix-step e seeks (i ∷ is) [] p = absurd p
prefix-step e seeks (i ∷ is) (j ∷ js) p = (rw p.0 refl, p.1)
prefix-step e defines [] js p = tt
prefix-step e defines (i ∷ is) [] p = absurd p
prefix-step e defines (i ∷ is) (j ∷ js) p = p.1
prefix-step e labels is js p = p
prefix-step e notes is js p = p
prefix-step e calls [] js p = tt
prefix-step e calls (i ∷ is) [] p = absurd p
prefix-step e calls (i ∷ is) (j ∷ js) p = p.1
prefix-step e unmarks is js p = p
prefix-step e (marks m) is js p = p

pub prefix-run : (e : Event) (xs : List Effect) (is js : List Ids) → Prefix is js → Prefix (ids_run e xs is) (ids_run e xs js)
prefix-run e [] is js p = p
prefix-run e (x ∷ xs) is js p = prefix-run e xs (ids_step e x is) (ids_step e x js) (prefix-step e x is js p)

pub ids-behind : (f : Forest) (es : List Event) → ids_of (behind f es) ≡ ids_over f (ids_of es)
unfolding ids_of
ids-behind nil es = refl
ids-behind (element a f z g) es = ids-behind g (z ∷ behind f (a ∷ es)) ∙ ap (λ (is : List Ids). ids_over g (ids_run z (effects_at z) is)) (ids-behind f (a ∷ es))

-- ---- by effects

pub off-run : (e : Event) (xs : List Effect) (is : List Ids) → T (all_effects off xs) → ids_run e xs is ≡ is
off-run e [] is t = refl
off-run e (labels ∷ xs) is t = off-run e xs is t
off-run e (notes ∷ xs) is t = off-run e xs is t
off-run e (unmarks ∷ xs) is t = off-run e xs is t
off-run e (marks m ∷ xs) is t = off-run e xs is t
off-run e (pushes ∷ xs) is t = absurd t
off-run e (pops ∷ xs) is t = absurd t
off-run e (names ∷ xs) is t = absurd t
off-run e (refers ∷ xs) is t = absurd t
off-run e (leads ∷ xs) is t = absurd t
off-run e (seeks ∷ xs) is t = absurd t
off-run e (defines ∷ xs) is t = absurd t
off-run e (calls ∷ xs) is t = absurd t

abbrev pub TopOf : List Ids → List Ids → Type 0
TopOf js is = (j : Ids) × (js ≡ j ∷ is)

top-step : (e : Event) (x : Effect) (i : Ids) (is : List Ids) → T (only_top x) → TopOf (ids_step e x (i ∷ is)) is
top-step e names i is t = (_, refl)
top-step e refers i is t = (_, refl)
top-step e leads i is t = (_, refl)
top-step e seeks i is t = (_, refl)
top-step e labels i is t = (_, refl)
top-step e notes i is t = (_, refl)
top-step e unmarks i is t = (_, refl)
top-step e (marks m) i is t = (_, refl)
top-step e pushes i is t = absurd t
top-step e pops i is t = absurd t
top-step e defines i is t = absurd t
top-step e calls i is t = absurd t

pub top-run : (e : Event) (xs : List Effect) (i : Ids) (is : List Ids) → T (all_effects only_top xs) → TopOf (ids_run e xs (i ∷ is)) is
top-run e [] i is t = (i, refl)
top-run e (x ∷ xs) i is t =
    let p = both (only_top x) (all_effects only_top xs) t in
    let q = top-step e x i is p.0 in
    let r = top-run e xs q.0 is p.1 in
    (r.0, ap (ids_run e xs) q.1 ∙ r.1)

pub push-run : (e : Event) (xs : List Effect) (is : List Ids) → T (is_push xs) → ids_run e xs is ≡ ids3 none none false ∷ is
push-run e (pushes ∷ xs) is t = off-run e xs (ids3 none none false ∷ is) t
push-run e [] is t = absurd t
push-run e (pops ∷ xs) is t = absurd t
push-run e (names ∷ xs) is t = absurd t
push-run e (refers ∷ xs) is t = absurd t
push-run e (leads ∷ xs) is t = absurd t
push-run e (seeks ∷ xs) is t = absurd t
push-run e (defines ∷ xs) is t = absurd t
push-run e (labels ∷ xs) is t = absurd t
push-run e (notes ∷ xs) is t = absurd t
push-run e (calls ∷ xs) is t = absurd t
push-run e (unmarks ∷ xs) is t = absurd t
push-run e (marks m ∷ xs) is t = absurd t

pop-one : (e : Event) (x : Effect) (i : Ids) (is : List Ids) → T (popping x) → ids_step e x (i ∷ is) ≡ is
pop-one e pops i is t = refl
pop-one e defines i is t = refl
pop-one e calls i is t = refl
pop-one e pushes i is t = absurd t
pop-one e names i is t = absurd t
pop-one e refers i is t = absurd t
pop-one e leads i is t = absurd t
pop-one e seeks i is t = absurd t
pop-one e labels i is t = absurd t
pop-one e notes i is t = absurd t
pop-one e unmarks i is t = absurd t
pop-one e (marks m) i is t = absurd t

pub pop-run : (e : Event) (xs : List Effect) (i : Ids) (is : List Ids) → T (pops_last xs) → ids_run e xs (i ∷ is) ≡ is
pop-run e [] i is t = absurd t
pop-run e (x ∷ []) i is t = pop-one e x i is t
pop-run e (x ∷ y ∷ ys) i is t =
    let p = both (only_top x) (pops_last (y ∷ ys)) t in
    let q = top-step e x i is p.0 in
    ap (ids_run e (y ∷ ys)) q.1 ∙ pop-run e (y ∷ ys) q.0 is p.1
