-- The place that the pass gives: some list that begins with the tags before it nests, and no more than 64 are open there. Assumes nothing.
use Rattle.std.proofs.Common.{Some, ◌≡◌, refl, sym, ◌∙◌, Bool, true, false, ◌&&◌, List, [], ◌∷◌, ◌++◌, ℕ, zero, suc, ◌+◌, ◌≤◌, ◌<◌, arith, leb, length, take, eq-eqb, leb-true, leb-false}
use mathlib.Core.Bool.{false≢true}
use lib.Seq.{take-nil}
use Rattle.lent.specs.Bytes.{one_of}
use Rattle.lent.proofs.Laws.{and_left, and_right}
use Rattle.check_nesting.specs.Grammar.{Item, one, opt, any, chain, name_of, holds, rules, whole}
use Rattle.check_nesting.specs.Tag.{Tag, exit, open_behind}
use Rattle.check_nesting.specs.Nests.{Forest, nil, tree, depth, events, Takes, nothing, one-taken, opt_none, any_none, chain-none, Children, none, child, NestsWithin}
use Rattle.check_nesting.specs.Pass.{done, Rest, shut, rest, entered, turn, Open, go, nest_from, nest_of}
use Rattle.check_nesting.proofs.Next.{ends}
use Rattle.check_nesting.proofs.Clear.{clear, each_holds, clear-holds}
use Rattle.check_nesting.proofs.Steps.{Kept, next-kept, clear_kept, takes-steps}
use Rattle.check_nesting.proofs.Step.{closed-end, Moves, enters, leaves, closes, goes, move-open, few-open, under, refuses, moves, first}
use Rattle.check_nesting.proofs.Passes.{Passes, pass}
use Rattle.check_nesting.proofs.Grows.{Way, by-through, by-empty, by-child, way, yes-within}

-- the required items of a rule, filled with the smallest that they take, at most d deep
record Filled (d : ℕ) (is : List Item) : Type 0 where
  kinds : List ℕ
  forest : Forest
  takes : Takes is kinds
  fits : Children kinds forest
  deep : depth forest ≤ d

-- the first kind of an item that is required
abbrev first_by : (ℕ → Bool) → List ℕ → Bool
first_by f [] = false
first_by f (k ∷ ks) = f k

abbrev filled_by : (ℕ → Bool) → List Item → Bool
filled_by f [] = true
filled_by f (one ks ∷ is) = first_by f ks && filled_by f is
filled_by f (opt ks ∷ is) = filled_by f is
filled_by f (any ks ∷ is) = filled_by f is
filled_by f (chain ks ∷ is) = filled_by f is

abbrev can_fill : ℕ → List Item → Bool
can_fill zero is = done is
can_fill (suc d) is = filled_by (λ k. leb 5 (name_of k) && can_fill d (holds k)) is

module _ (f : ℕ → Bool) (d : ℕ) (g : (k : ℕ) → f k ≡ true → (5 ≤ name_of k) × Filled d (holds k)) where
  skipped : (is js : List Item) → ((cs : List ℕ) → Takes js cs → Takes is cs) → Filled (suc d) js → Filled (suc d) is
  skipped is js w i = record { kinds = i.kinds; forest = i.forest; takes = w i.kinds i.takes; fits = i.fits; deep = i.deep }

  fill-by : (is : List Item) → filled_by f is ≡ true → Filled (suc d) is
  fill-by [] t = record { kinds = []; forest = nil; takes = nothing; fits = none; deep = omega arith }
  fill-by (one [] ∷ is) t = absurd (false≢true t)
  fill-by (one (k ∷ ks) ∷ is) t =
      let h = g k (and_left (f k) (filled_by f is) t) in
      let i = fill-by is (and_right (f k) (filled_by f is) t) in
      let m : one_of (k ∷ ks) k ≡ true = rw (eq-eqb k k refl) in
      record {
        kinds = k ∷ i.kinds;
        forest = tree (name_of k) h.1.forest i.forest;
        takes = one-taken m i.takes;
        fits = child h.0 h.1.takes h.1.fits i.fits;
        deep = omega (arith, h.1.deep, i.deep);
      }
  fill-by (opt ks ∷ is) t = skipped (opt ks ∷ is) is (λ cs w. opt_none w) (fill-by is t)
  fill-by (any ks ∷ is) t = skipped (any ks ∷ is) is (λ cs w. any_none w) (fill-by is t)
  fill-by (chain ks ∷ is) t = skipped (chain ks ∷ is) is (λ cs w. chain-none w) (fill-by is t)

fill : (d : ℕ) (is : List Item) → can_fill d is ≡ true → Filled d is
fill zero is t = record { kinds = []; forest = nil; takes = ends is t; fits = none; deep = omega arith }
fill (suc d) is t =
    fill-by (λ k. leb 5 (name_of k) && can_fill d (holds k)) d
    (λ k e. (leb-true 5 (name_of k) (and_left (leb 5 (name_of k)) (can_fill d (holds k)) e), fill d (holds k) (and_right (leb 5 (name_of k)) (can_fill d (holds k)) e)))
    is t

-- what may come next can be filled
abbrev Fine : Rest → Type 0
Fine shut = Unit {0}
Fine (rest q) = (clear q ≡ true) × (can_fill 3 q ≡ true)

filled-kept : (f : ℕ → Bool) → Kept (λ q. filled_by f q ≡ true)
filled-kept f =
    record {
      one_kept = λ ks is p. and_right (first_by f ks) (filled_by f is) p;
      opt-kept = λ ks is p. p;
      any-kept = λ ks is p. p;
      chain-kept = λ k ks is p. p;
      none_kept = λ ks is p. p;
    }

can-fill-holds : (k : ℕ) → can_fill 3 (holds k) ≡ true
unfolding rules holds
can-fill-holds k = each_holds (can_fill 3) refl refl k

abbrev AllFine : List Open → Type 0
AllFine [] = Unit {0}
AllFine (o ∷ os) = Fine o.behind × AllFine os

fine-way : (q : List Item) (n : ℕ) {inside behind : Rest} → Fine (rest q) → Way q n (entered inside behind) → Fine inside × Fine behind
fine-way q n f (by-through l) = (f, f)
fine-way q n f (by-empty l m) = (tt, f)
fine-way q n f (by-child {k} l e) =
    ((clear-holds k, can-fill-holds k), (next-kept clear_kept q n e f.0, next-kept (filled-kept (λ j. leb 5 (name_of j) && can_fill 2 (holds j))) q n e f.1))

fine-turn : (r : Rest) (n : ℕ) {inside behind : Rest} → Fine r → turn r n ≡ entered inside behind → Fine inside × Fine behind
unfolding turn
fine-turn shut n f e = let z : ◌≡◌ {A = ℕ} 0 1 = cc in absurd (omega arith)
fine-turn (rest q) n f e = fine-way q n f (rw e at (way q n))

fine-move : {t : Tag} {r r' : Rest} {os os' : List Open} → Moves 64 t r os (go r' os') → Fine r → AllFine os → Fine r' × AllFine os'
fine-move (enters {n} {r} l e) f a = let g = fine-turn r n f e in (g.0, (g.1, a))
fine-move (leaves e l) f a = (f, a.1)
fine-move (closes e l m) f a = (a.0, a.1)

-- where the tags lead: 64 are open at most, and three more fill what they lack
record Reached (r : Rest) (os : List Open) (ts : List Tag) : Type 0 where
  to : Rest
  now-open : List Open
  fine : Fine to
  all-fine : AllFine now-open
  few : length now-open ≤ 64
  along : (k : ℕ) → open_behind (length os) (take k ts) ≤ 64
  back : (more : List Tag) → Passes 67 to now-open more → Passes 67 r os (ts ++ more)

here : (r : Rest) (os : List Open) → Fine r → AllFine os → length os ≤ 64 → Reached r os []
here r os f a l = record { to = r; now-open = os; fine = f; all-fine = a; few = l; along = λ k. rw take-nil l; back = λ more p. p }

step-along : {t : Tag} {r r' : Rest} {os os' : List Open} → Moves 64 t r os (go r' os') → length os ≤ 64 → (ts : List Tag)
    → ((k : ℕ) → open_behind (length os') (take k ts) ≤ 64) → (k : ℕ) → open_behind (length os) (take k (t ∷ ts)) ≤ 64
step-along m l ts f zero = l
step-along m l ts f (suc k) = rw (move-open m (take k ts)) (f k)

reach : (n : ℕ) (ts : List Tag) (i : ℕ) (r : Rest) (os : List Open) → nest_from 64 i r os ts ≡ Some (i + n) → Fine r → AllFine os → length os ≤ 64 → Reached r os (take n ts)
reach zero ts i r os e f a l = here r os f a l
reach (suc n) [] i r os e f a l = here r os f a l
reach (suc n) (t ∷ ts) i r os e f a l = elim (first 64 t r os) [
  | refuses g ↦ let c = g i ts in let z : i ≡ i + suc n = cc in absurd (omega arith)
  | moves r' os' m ↦
      let b = fine-move m f a in
      let h = few-open m l in
      let j : i + suc n ≡ i + 1 + n = omega arith in
      let w = reach n ts (i + 1) r' os' (sym (goes i ts m) ∙ (rw j at e)) b.0 b.1 h in
      record {
        to = w.to;
        now-open = w.now-open;
        fine = w.fine;
        all-fine = w.all-fine;
        few = w.few;
        along = step-along m l (take n ts) w.along;
        back = λ more p k. goes k (take n ts ++ more) (under 67 m (omega arith)) ∙ w.back more p (k + 1);
      }
]

-- a way to the end
abbrev Ending : Rest → List Open → Type 0
Ending r os = (more : List Tag) × Passes 67 r os more

filled : (q : List Item) (os : List Open) (ts : List Tag) → Fine (rest q) → length os ≤ 64
    → ((t : List Item) → done t ≡ true → Passes 67 (rest t) os ts) → Ending (rest q) os
filled q os ts f l p =
    let w = fill 3 q f.1 in
    let c = takes-steps q w.kinds f.0 w.takes in
    (events w.forest ts, pass 67 w.fits q c.0 c.1 os ts (omega (arith, w.deep)) (p c.0 c.2))

ending : (r : Rest) (os : List Open) → Fine r → AllFine os → length os ≤ 64 → Ending r os
ending r [] f a l = ([], λ i. closed-end 67 i r)
ending r (o ∷ os) f a l = pick (leb o.name 2) refl (λ r' g. ending r' os g a.1 (omega arith))
  where
    closing : (r : Rest) → 2 < o.name → Fine r → Ending o.behind os → Ending r (o ∷ os)
    closing shut h g w = (exit o.name ∷ w.0, λ i. goes i w.0 (closes refl h refl) ∙ w.1 (i + 1))
    closing (rest q) h g w = filled q (o ∷ os) (exit o.name ∷ w.0) g l (λ t d i. goes i w.0 (closes refl h d) ∙ w.1 (i + 1))

    pick : (b : Bool) → leb o.name 2 ≡ b → ((r : Rest) → Fine r → Ending r os) → Ending r (o ∷ os)
    pick true p ih = let w = ih r f in (exit o.name ∷ w.0, λ i. goes i w.0 (leaves refl (leb-true o.name 2 p)) ∙ w.1 (i + 1))
    pick false p ih = closing r (leb-false o.name 2 p) f (ih o.behind a.0)

module _ (ts : List Tag) (i : ℕ) (e : nest_of ts ≡ Some i) where
  reached : Reached (rest whole) [] (take i ts)
  unfolding nest_of
  reached = let z : i ≡ 0 + i = omega arith in reach i ts 0 (rest whole) [] (rw z at e) (refl, refl) tt (omega arith)

  pub before-fault : (more : List Tag) × NestsWithin 67 (take i ts ++ more)
  before-fault =
      let w = reached in
      let c = ending w.to w.now-open w.fine w.all-fine w.few in
      (c.0, yes-within 67 (take i ts ++ c.0) (w.back c.0 c.1 0))

  pub open-before : (k : ℕ) → open_behind 0 (take k (take i ts)) ≤ 64
  open-before = reached.along
