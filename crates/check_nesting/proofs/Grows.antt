-- A list that passes nests: its forest grows tag by tag. Assumes nothing.
use Rattle.std.proofs.Common.{if◌then◌else◌, Some, None, ◌≡◌, refl, sym, ap, ◌∙◌, ◌↔◌, Bool, true, false, List, [], ◌∷◌, ◌++◌, ℕ, zero, suc, ◌+◌, ◌-◌, ◌≤◌, ◌<◌, arith, leb, length, leb-true, leb-false}
use Rattle.check_nesting.specs.Grammar.{Item, holds, whole}
use Rattle.check_nesting.specs.Tag.{Tag, enter, exit}
use Rattle.check_nesting.specs.Nests.{Forest, nil, tree, events, depth, Children, none, through, empty, child, NestsWithin, Nests}
use Rattle.check_nesting.specs.Pass as P
use Rattle.check_nesting.specs.Pass.{Taken, refuse, take, next, Rest, shut, rest, Turn, refused, entered, turn, may_end, Open, go, nest_from, nest_of}
use Rattle.check_nesting.proofs.Next.{taken}
use Rattle.check_nesting.proofs.Steps.{Steps, stay, along, steps-takes, steps-append, still-whole}
use Rattle.check_nesting.proofs.Step.{open-end, stops, none_open, Moves, enters, leaves, closes, goes, refuses, moves, first}
use Rattle.check_nesting.proofs.Passes.{opens, nests-yes}

-- which turn it is
pub data Way (q : List Item) (n : ℕ) : Turn → Type 0 where
  by-none : Way q n refused
  by-through : n ≤ 2 → Way q n (entered (rest q) (rest q))
  by-empty : 3 ≤ n → n ≤ 4 → Way q n (entered shut (rest q))
  by-child : {k : ℕ} {r : List Item} → 5 ≤ n → next q n ≡ take k r → Way q n (entered (rest (holds k)) (rest r))

pub way : (q : List Item) (n : ℕ) → Way q n (turn (rest q) n)
unfolding turn
way q n = pick (leb n 2) (leb n 4) (next q n) refl refl refl
  where
    pick : (a b : Bool) (t : Taken) → leb n 2 ≡ a → leb n 4 ≡ b → next q n ≡ t
        → Way q n (if a then entered (rest q) (rest q) else (if b then entered shut (rest q) else P.child t))
    pick true b t x y z = by-through (leb-true n 2 x)
    pick false true t x y z = by-empty (leb-false n 2 x) (leb-true n 4 y)
    pick false false refuse x y z = by-none
    pick false false (take k r) x y z = by-child (leb-false n 4 y) z

no : {A : Type 0} {i : ℕ} → Some i ≡ None → A
no e = let z : ◌≡◌ {A = ℕ} 0 1 = cc in absurd (omega arith)

-- the first tag of a list that passes
pub record On (most : ℕ) (r : Rest) (os : List Open) (t : Tag) (ts : List Tag) : Type 0 where
  pub to : Rest
  pub now-open : List Open
  pub move : Moves most t r os (go to now-open)
  pub at : ℕ
  pub more : nest_from most at to now-open ts ≡ None

pub on : (most i : ℕ) (r : Rest) (os : List Open) (t : Tag) (ts : List Tag) → nest_from most i r os (t ∷ ts) ≡ None → On most r os t ts
on most i r os t ts e = elim (first most t r os) [
  | refuses f ↦ no (sym (f i ts) ∙ e)
  | moves r' os' m ↦ record { to = r'; now-open = os'; move = m; at = i + 1; more = sym (goes i ts m) ∙ e }
]

-- no element begins it
abbrev Exits : List Tag → Type 0
Exits [] = Unit {0}
Exits (enter n ∷ ts) = ⊥
Exits (exit n ∷ ts) = Unit {0}

-- the exit of an element n, and what may come behind it then
record Left (most n : ℕ) (os : List Open) (ts : List Tag) (r : Rest) : Type 0 where
  after : List Tag
  cut : ts ≡ exit n ∷ after
  at : ℕ
  more : nest_from most at r os after ≡ None

module _ (most n : ℕ) (behind r : Rest) (os : List Open) where
  left_by : (m : ℕ) (ts : List Tag) {r' : Rest} {os' : List Open} → Moves most (exit m) r (opens n behind ∷ os) (go r' os') → (i : ℕ) → nest_from most i r' os' ts ≡ None
      → (n ≤ 2 → Left most n os (exit m ∷ ts) r) × (2 < n → Left most n os (exit m ∷ ts) behind × (may_end r ≡ true))
  left_by m ts (leaves e l) i p = (λ h. record { after = ts; cut = rw e; at = i; more = p }, λ h. absurd (omega arith))
  left_by m ts (closes e l d) i p = (λ h. absurd (omega arith), λ h. (record { after = ts; cut = rw e; at = i; more = p }, d))

  left : (i : ℕ) (ts : List Tag) → Exits ts → nest_from most i r (opens n behind ∷ os) ts ≡ None → (n ≤ 2 → Left most n os ts r) × (2 < n → Left most n os ts behind × (may_end r ≡ true))
  left i [] x e = no (sym (open-end most i r (opens n behind) os) ∙ e)
  left i (enter m ∷ ts) x e = absurd x
  left i (exit m ∷ ts) x e = let o = on most i r (opens n behind ∷ os) (exit m) ts e in left_by m ts o.move o.at o.more

-- nothing comes in 3 and 4
shut-exits : (most i : ℕ) (os : List Open) (ts : List Tag) → nest_from most i shut os ts ≡ None → Exits ts
unfolding turn
shut-exits most i os [] e = tt
shut-exits most i os (enter n ∷ ts) e = never (on most i shut os (enter n) ts e).move
  where
    never : {r : Rest} {os' : List Open} → Moves most (enter n) shut os (go r os') → ⊥
    never (enters l e) = let z : ◌≡◌ {A = ℕ} 0 1 = cc in omega arith
shut-exits most i os (exit n ∷ ts) e = tt

none_left : (most i : ℕ) (r : Rest) (ts : List Tag) → Exits ts → nest_from most i r [] ts ≡ None → ts ≡ []
none_left most i r [] x e = refl
none_left most i r (enter n ∷ ts) x e = absurd x
none_left most i r (exit n ∷ ts) x e = no (sym (stops most i (exit n) ts r [] (none_open most n r)) ∙ e)

-- a forest, as far as it goes: up to the end, or an exit
record Grown (most : ℕ) (q : List Item) (os : List Open) (ts : List Tag) : Type 0 where
  forest : Forest
  kinds : List ℕ
  end : List Item
  after : List Tag
  at : ℕ
  same : ts ≡ events forest after
  fits : Children kinds forest
  steps : Steps q kinds end
  deep : depth forest ≤ most - length os
  shorter : length after ≤ length ts
  exits : Exits after
  more : nest_from most at (rest end) os after ≡ None

abbrev Grow : (most fuel : ℕ) → Type 0
Grow most fuel = (ts : List Tag) → length ts ≤ fuel → (i : ℕ) (q : List Item) (os : List Open) → nest_from most i (rest q) os ts ≡ None → Grown most q os ts

bare : (most i : ℕ) (q : List Item) (os : List Open) (ts : List Tag) → Exits ts → nest_from most i (rest q) os ts ≡ None → Grown most q os ts
bare most i q os ts x e =
    record {
      forest = nil;
      kinds = [];
      end = q;
      after = ts;
      at = i;
      same = refl;
      fits = none;
      steps = stay;
      deep = omega arith;
      shorter = omega arith;
      exits = x;
      more = e;
    }

-- an element before a forest
planted : {most : ℕ} {q r : List Item} {os : List Open} {ts ms : List Tag} (n : ℕ) (cs : Forest) (ks : List ℕ) → ts ≡ events cs (exit n ∷ ms)
    → suc (depth cs) ≤ most - length os → length ms ≤ length ts
    → (g : Grown most r os ms) → Children (ks ++ g.kinds) (tree n cs g.forest) → Steps q (ks ++ g.kinds) g.end
    → Grown most q os (enter n ∷ ts)
planted n cs ks e d l g c s =
    record {
      forest = tree n cs g.forest;
      kinds = ks ++ g.kinds;
      end = g.end;
      after = g.after;
      at = g.at;
      same = ap (λ (x : List Tag). enter n ∷ x) (e ∙ ap (λ (x : List Tag). events cs (exit n ∷ x)) g.same);
      fits = c;
      steps = s;
      deep = omega (arith, g.deep);
      shorter = omega (arith, g.shorter);
      exits = g.exits;
      more = g.more;
    }

module _ (most fuel : ℕ) (ih : Grow most fuel) (n : ℕ) (ts : List Tag) (h : length ts ≤ fuel) (q : List Item) (os : List Open) where
  grow-in : {inside behind : Rest} → length os < most → Way q n (entered inside behind) → (i : ℕ) → nest_from most i inside (opens n behind ∷ os) ts ≡ None → Grown most q os (enter n ∷ ts)
  grow-in l (by-through k) i e =
      let g = ih ts h i q (opens n (rest q) ∷ os) e in
      let x = (left most n (rest q) (rest g.end) os g.at g.after g.exits g.more).0 k in
      let m = ap length x.cut in
      let f = ih x.after (omega (arith, g.shorter)) x.at g.end os x.more in
      planted n g.forest g.kinds (g.same ∙ ap (events g.forest) x.cut) (omega (arith, g.deep)) (omega (arith, g.shorter)) f
      (through k g.fits f.fits) (steps-append g.steps f.steps)
  grow-in l (by-empty k k') i e =
      let x = ((left most n (rest q) shut os i ts (shut-exits most i (opens n (rest q) ∷ os) ts e) e).1 k).0 in
      let m = ap length x.cut in
      let f = ih x.after (omega arith) x.at q os x.more in
      planted n nil [] x.cut (omega arith) (omega arith) f (empty k k' f.fits) f.steps
  grow-in l (by-child {k} {r} k' w) i e =
      let g = ih ts h i (holds k) (opens n (rest r) ∷ os) e in
      let y = (left most n (rest r) (rest g.end) os g.at g.after g.exits g.more).1 (omega arith) in
      let x = y.0 in
      let m = ap length x.cut in
      let f = ih x.after (omega (arith, g.shorter)) x.at r os x.more in
      let p = (taken q n w).0 in
      planted n g.forest (k ∷ []) (g.same ∙ ap (events g.forest) x.cut) (omega (arith, g.deep)) (omega (arith, g.shorter)) f
      (rw p at (child {k = k} (omega arith) (steps-takes g.steps y.1) g.fits f.fits))
      (along (rw p w) f.steps)

  grow-enter : {r : Rest} {os' : List Open} → Moves most (enter n) (rest q) os (go r os') → (i : ℕ) → nest_from most i r os' ts ≡ None → Grown most q os (enter n ∷ ts)
  grow-enter (enters l t) i e = grow-in l (rw t at (way q n)) i e

grow : (most fuel : ℕ) → Grow most fuel
grow most zero [] h i q os e = bare most i q os [] tt e
grow most zero (t ∷ ts) h i q os e = absurd (omega arith)
grow most (suc fuel) [] h i q os e = bare most i q os [] tt e
grow most (suc fuel) (exit n ∷ ts) h i q os e = bare most i q os (exit n ∷ ts) tt e
grow most (suc fuel) (enter n ∷ ts) h i q os e =
    let o = on most i (rest q) os (enter n) ts e in
    grow-enter most fuel (λ us l j r ps p. grow most fuel us l j r ps p) n ts (omega arith) q os o.move o.at o.more

pub yes-within : (most : ℕ) (ts : List Tag) → nest_from most 0 (rest whole) [] ts ≡ None → NestsWithin most ts
yes-within most ts e =
    let g = grow most (length ts) ts (omega arith) 0 whole [] e in
    let t = still-whole g.steps refl in
    record {
      forest = g.forest;
      kinds = g.kinds;
      same = g.same ∙ ap (events g.forest) (none_left most g.at (rest g.end) g.after g.exits g.more);
      fits = g.fits;
      takes = steps-takes g.steps (rw t);
      deep = omega (arith, g.deep);
    }

pub yes-nests : (ts : List Tag) → nest_of ts ≡ None → Nests ts
unfolding nest_of
yes-nests ts e = yes-within 64 ts e

-- the pass says yes exactly where the list nests
pub exactly : (ts : List Tag) → (nest_of ts ≡ None) ↔ Nests ts
exactly ts = (yes-nests ts, nests-yes ts)
