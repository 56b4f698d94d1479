-- No more footnote labels than footnotes, and as many exits as enters. Assumes nothing.
use Rattle.std.proofs.Common.{Some, None}
use Rattle.std.specs.Prelude.{if◌then◌else◌}
use mathlib.Core.Path.{◌≡◌, refl, sym, ap, ◌∙◌}
use mathlib.Core.Bool.{Bool, true, false, ◌&&◌, ◌||◌}
use mathlib.Core.List.{List, [], ◌∷◌, ◌++◌}
use Prim.Native.Nat.{ℕ, suc, ◌+◌, ◌≤◌}
use native.Mathlib.Omega.{arith}
use lib.Dec.{T, eqb, leb, leb→le, eqb→eq}
use borrow.Author.Tests.{eqb-true, ne_eqb}
use lib.ListN.{length}
use Rattle.lent.specs.Bytes.{one_of}
use Rattle.event.specs.declared.Event.{Event}
use Rattle.event.specs.Event.{is_enter}
use Rattle.check_labels.specs.Labels.{Part, slice, label_of, identities}
use Rattle.normalize_identifier.specs.Identity.{identity_of}
use Rattle.check_nesting.specs.Grammar.{Item, one, opt, any, chain, name_of, holds, rules, whole, kind_count}
use Rattle.check_nesting.specs.Nests.{Takes, nothing, one-taken, opt_none, opt-taken, any_none, any-taken, chain-none, chain-taken}
use Rattle.check_rules.specs.Elements.{Forest, nil, element, list_of, Paired}
use Rattle.check_rules.specs.Rules.{enters}
use Rattle.check_rules.proofs.Before.{clash}
use Rattle.machine_shape.specs.Kinds.{below}
use Rattle.machine_shape.specs.Grown.{Kinds, none, through, child}
use Rattle.machine_shape.proofs.Says.{both}
use Rattle.machine_shape.proofs.Test.{computed, kind-below}

-- ---- counts

abbrev pub exits : ℕ → List Event → ℕ
exits n [] = 0
exits n (e ∷ es) = if is_enter e then exits n es else (if eqb e.name n then suc (exits n es) else exits n es)

abbrev one? : Bool → ℕ
one? true = 1
one? false = 0

-- elements of a name in a forest
abbrev many : ℕ → Forest → ℕ
many n nil = 0
many n (element a f z g) = one? (eqb a.name n) + (many n f + many n g)

exit-count : (n : ℕ) (e : Event) (es : List Event) → is_enter e ≡ false → exits n (e ∷ es) ≡ one? (eqb e.name n) + exits n es
exit-count n e es h = rw h (at (eqb e.name n))
  where
    at : (x : Bool) → (if x then suc (exits n es) else exits n es) ≡ one? x + exits n es
    at true = omega arith
    at false = omega arith

enter-count : (n : ℕ) (e : Event) (es : List Event) → is_enter e ≡ true → enters n (e ∷ es) ≡ one? (eqb e.name n) + enters n es
enter-count n e es h = rw h (at (eqb e.name n))
  where
    at : (x : Bool) → (if x then enters n es + 1 else enters n es) ≡ one? x + enters n es
    at true = omega arith
    at false = omega arith

pub exits-forest : (n : ℕ) (f : Forest) (es : List Event) → Paired f → exits n (list_of f es) ≡ many n f + exits n es
exits-forest n nil es r = omega arith
exits-forest n (element a f z g) es (r, i, j) =
    let p = exits-forest n f (z ∷ list_of g es) i in
    let q = exits-forest n g es j in
    let e : exits n (z ∷ list_of g es) ≡ one? (eqb a.name n) + exits n (list_of g es) = rw (sym r.2) (exit-count n z (list_of g es) r.1) in
    rw r.0 (omega arith)

pub enters-forest : (n : ℕ) (f : Forest) (es : List Event) → Paired f → enters n (list_of f es) ≡ many n f + enters n es
enters-forest n nil es r = omega arith
enters-forest n (element a f z g) es (r, i, j) =
    let p = enters-forest n f (z ∷ list_of g es) i in
    let q = enters-forest n g es j in
    let e : enters n (z ∷ list_of g es) ≡ enters n (list_of g es) = rw r.1 refl in
    enter-count n a (list_of f (z ∷ list_of g es)) r.0 ∙ (omega arith)

-- as many exits as enters
pub paired-exits : (n : ℕ) (f : Forest) → Paired f → exits n (list_of f []) ≡ enters n (list_of f [])
paired-exits n f r = let p = exits-forest n f [] r in let q = enters-forest n f [] r in omega arith

-- as many identities as exits
pub identities-long : (n : ℕ) (text : List ℕ) (es : List Event) → length (identities n text es) ≡ exits n es
unfolding identities label_of
identities-long n text [] = refl
identities-long n text (e ∷ es) = at (is_enter e) (eqb e.name n) (identities-long n text es)
  where
    at : (x y : Bool) → length (identities n text es) ≡ exits n es
        → length {A = List ℕ} (elim (if◌then◌else◌ {A = Part} x None (if y then Some (e.from.0, e.to.0) else None)) [ Some (from, to) ↦ identity_of (slice text from to) ∷ identities n text es | None ↦ identities n text es ]) ≡ (if x then exits n es else (if y then suc (exits n es) else exits n es))
    at true y h = h
    at false true h = ap suc h
    at false false h = h

-- ---- 65 stands only in 64, and 64 only in 63

abbrev weight : ℕ → ℕ
weight k = one? (one_of (64 ∷ 65 ∷ []) k)

abbrev weights : List ℕ → ℕ
weights [] = 0
weights (k ∷ ks) = weight k + weights ks

-- the most that a child weighs
abbrev heaviest : List ℕ → ℕ
heaviest ks = weights ks

abbrev most : List Item → ℕ
most [] = 0
most (one ks ∷ items) = heaviest ks + most items
most (opt ks ∷ items) = heaviest ks + most items
most (any ks ∷ items) = most items
most (chain ks ∷ items) = heaviest ks + most items

-- what may come often weighs nothing
abbrev light : List Item → Bool
light [] = true
light (one ks ∷ items) = light items
light (opt ks ∷ items) = light items
light (any ks ∷ items) = eqb (heaviest ks) 0 && light items
light (chain ks ∷ items) = light items

lighter : (ks : List ℕ) (k : ℕ) → one_of ks k ≡ true → weight k ≤ heaviest ks
lighter [] k h = clash h refl
lighter (j ∷ ks) k h = at (eqb k j) refl h (lighter ks k)
  where
    at : (x : Bool) → eqb k j ≡ x → (x || one_of ks k) ≡ true → (one_of ks k ≡ true → weight k ≤ heaviest ks) → weight k ≤ weight j + weights ks
    at true e q more = let i : k ≡ j = eqb-true k j e in rw i (omega arith)
    at false e q more = let m = more q in omega arith

weighs : {items : List Item} {ks : List ℕ} → Takes items ks → T (light items) → weights ks ≤ most items
weighs nothing t = omega arith
weighs (one-taken {k} {ks} {is = items} m r) t = let i = lighter ks k m in let j = weighs r t in omega arith
weighs (opt_none {ks} r) t = let j = weighs r t in omega arith
weighs (opt-taken {k} {ks} m r) t = let i = lighter ks k m in let j = weighs r t in omega arith
weighs (any_none {ks} {is = items} r) t = let j = weighs r (both (eqb (heaviest ks) 0) (light items) t).1 in omega arith
weighs (any-taken {k} {ks} {is = items} m r) t = let i = lighter ks k m in let z = eqb→eq (heaviest ks) 0 (both (eqb (heaviest ks) 0) (light items) t).0 in let j = weighs r t in omega arith
weighs (chain-none {ks} r) t = let j = weighs r t in omega arith
weighs (chain-taken {k} r) t = let j = weighs r t in omega arith

-- what an element holds weighs no more than itself, and one more in a footnote
abbrev balanced : ℕ → Bool
balanced k = light (holds k) && leb (most (holds k) + one? (eqb (name_of k) 65)) (weight k + one? (eqb (name_of k) 63))

all-balanced : T (below kind_count balanced)
unfolding holds rules
all-balanced = tt

weights-join : (ks ls : List ℕ) → weights (ks ++ ls) ≡ weights ks + weights ls
weights-join [] ls = omega arith
weights-join (k ∷ ks) ls = let i = weights-join ks ls in omega arith

labels-few : {ks : List ℕ} {f : Forest} → Kinds ks f → many 65 f ≤ many 63 f + weights ks
labels-few none = omega arith
labels-few (through {a} {ks = ks} {ls} m r c d) =
    let i = labels-few c in
    let j = labels-few d in
    let x : eqb a.name 65 ≡ false = ne_eqb a.name 65 (λ e. absurd (omega arith)) in
    let y : eqb a.name 63 ≡ false = ne_eqb a.name 63 (λ e. absurd (omega arith)) in
    rw (x, y, weights-join ks ls) (omega arith)
labels-few (child {a} {k = k} e l r w c d) =
    let i = labels-few c in
    let j = labels-few d in
    let p = both (light (holds k)) (leb (most (holds k) + one? (eqb (name_of k) 65)) (weight k + one? (eqb (name_of k) 63))) (computed balanced kind_count all-balanced k (kind-below k l)) in
    let q = leb→le (most (holds k) + one? (eqb (name_of k) 65)) (weight k + one? (eqb (name_of k) 63)) p.1 in
    let m = weighs w p.0 in
    rw e (omega arith)

whole-light : {ks : List ℕ} → Takes whole ks → weights ks ≤ 0
whole-light w = weighs w tt

-- so in the whole list
pub few-labels : {ks : List ℕ} {f : Forest} → Kinds ks f → Takes whole ks → Paired f → exits 65 (list_of f []) ≤ enters 63 (list_of f [])
few-labels {f = f} c w r =
    let i = labels-few c in
    let j = whole-light w in
    let p = exits-forest 65 f [] r in
    let q = enters-forest 63 f [] r in
    omega arith
