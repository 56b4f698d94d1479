-- The pass, tag by tag: where it stops, and each way to go on. Assumes nothing.
use Rattle.std.proofs.Common.{if◌then◌else◌, Some, None, ◌≡◌, refl, ap, Bool, true, false, cond, ◌&&◌, ◌||◌, List, [], ◌∷◌, ℕ, ◌+◌, ◌≤◌, ◌<◌, arith, length, eqb, leb, eq-eqb, le-leb, eqb-true, leb-true, leb-false}
use borrow.Author.Tests.{lt-leb}
use Rattle.check_nesting.specs.Tag.{Tag, enter, exit, open_behind}
use Rattle.check_nesting.specs.Pass as P
use Rattle.check_nesting.specs.Pass.{Rest, shut, rest, Turn, refused, entered, turn, may_end, Open, Step, stop, go, opened, leave, step, nest_from}
use Rattle.check_nesting.proofs.Next.{no_name}
use Rattle.check_nesting.specs.Grammar.{name_count}

-- ---- the end

module _ (most i : ℕ) (r : Rest) where
  pub closed-end : nest_from most i r [] [] ≡ None
  unfolding nest_from
  closed-end = refl

  pub open-end : (o : Open) (os : List Open) → nest_from most i r (o ∷ os) [] ≡ Some i
  unfolding nest_from
  open-end o os = refl

-- ---- where it stops

pub stops : (most i : ℕ) (t : Tag) (ts : List Tag) (r : Rest) (os : List Open) → step most t r os ≡ stop → nest_from most i r os (t ∷ ts) ≡ Some i
unfolding nest_from
stops most i t ts r os e = rw (e, nest_from)

pub no-turn : (r : Rest) (n : ℕ) → name_count ≤ n → turn r n ≡ refused
unfolding turn
no-turn shut n h = refl
no-turn (rest is) n h = rw (lt-leb n 2 (omega arith), lt-leb n 4 (omega arith), no_name is n h)

module _ (most n : ℕ) (r : Rest) (os : List Open) where
  pub too_many : most ≤ length os → step most (enter n) r os ≡ stop
  unfolding step
  too_many h = rw (le-leb most (length os) h)

  pub not_entered : turn r n ≡ refused → step most (enter n) r os ≡ stop
  unfolding step
  not_entered e = rw e (never (leb most (length os)))
    where
      never : (t : Bool) → cond t stop stop ≡ stop
      never true = refl
      never false = refl

pub none_open : (most n : ℕ) (r : Rest) → step most (exit n) r [] ≡ stop
unfolding step
none_open most n r = refl

module _ (most n : ℕ) (r : Rest) (o : Open) (os : List Open) where
  pub not_left : leave r o n ≡ None → step most (exit n) r (o ∷ os) ≡ stop
  unfolding step
  not_left e = rw e

  pub is-left : {r' : Rest} → leave r o n ≡ Some r' → step most (exit n) r (o ∷ os) ≡ go r' os
  unfolding step
  is-left e = rw e

-- ---- each way to go on

pub data Moves (most : ℕ) : Tag → Rest → List Open → Step → Type 0 where
  halts : {t : Tag} {r : Rest} {os : List Open} → Moves most t r os stop
  enters : {n : ℕ} {r inside behind : Rest} {os : List Open} → length os < most → turn r n ≡ entered inside behind
      → Moves most (enter n) r os (go inside (record { name = n; behind = behind } ∷ os))
  leaves : {n : ℕ} {r : Rest} {o : Open} {os : List Open} → o.name ≡ n → n ≤ 2 → Moves most (exit n) r (o ∷ os) (go r os)
  closes : {n : ℕ} {r : Rest} {o : Open} {os : List Open} → o.name ≡ n → 2 < n → may_end r ≡ true → Moves most (exit n) r (o ∷ os) (go o.behind os)

view : (most : ℕ) (t : Tag) (r : Rest) (os : List Open) → Moves most t r os (step most t r os)
unfolding step leave
view most (enter n) r os = pick (leb most (length os)) (turn r n) refl refl
  where
    pick : (a : Bool) (w : Turn) → leb most (length os) ≡ a → turn r n ≡ w → Moves most (enter n) r os (if a then stop else opened n os w)
    pick true w p e = halts
    pick false refused p e = halts
    pick false (entered inside behind) p e = enters (leb-false most (length os) p) e
view most (exit n) r [] = halts
view most (exit n) r (o ∷ os) = pick (eqb o.name n) (leb n 2) (may_end r) refl refl refl
  where
    pick : (a b c : Bool) → eqb o.name n ≡ a → leb n 2 ≡ b → may_end r ≡ c
        → Moves most (exit n) r (o ∷ os) (P.closed os (if a && (b || c) then Some (if b then r else o.behind) else None))
    pick false b c p l m = halts
    pick true true c p l m = leaves (eqb-true o.name n p) (leb-true n 2 l)
    pick true false true p l m = closes (eqb-true o.name n p) (leb-false n 2 l) m
    pick true false false p l m = halts

moved : {most : ℕ} {t : Tag} {r r' : Rest} {os os' : List Open} → Moves most t r os (go r' os') → step most t r os ≡ go r' os'
unfolding step leave
moved {most} (enters {os = os} l e) = rw (e, lt-leb most (length os) l)
moved (leaves {n} {o = o} e l) = rw (eq-eqb o.name n e, le-leb n 2 l)
moved (closes {n} {o = o} e l m) = rw (eq-eqb o.name n e, lt-leb n 2 l, m)

pub by-step : {most : ℕ} {t : Tag} {r r' : Rest} {os os' : List Open} → step most t r os ≡ go r' os' → Moves most t r os (go r' os')
by-step {most} {t} {r} {os = os} e = rw e at (view most t r os)

pub goes : (i : ℕ) (ts : List Tag) {most : ℕ} {t : Tag} {r r' : Rest} {os os' : List Open} → Moves most t r os (go r' os') → nest_from most i r os (t ∷ ts) ≡ nest_from most (i + 1) r' os' ts
unfolding nest_from
goes i ts m = rw (moved m, nest_from)

-- ---- how many are open

pub move-open : {most : ℕ} {t : Tag} {r r' : Rest} {os os' : List Open} → Moves most t r os (go r' os') → (ts : List Tag) → open_behind (length os) (t ∷ ts) ≡ open_behind (length os') ts
move-open (enters l e) ts = refl
move-open (leaves {os = os} e l) ts = ap (λ (d : ℕ). open_behind d ts) (omega arith)
move-open (closes {os = os} e l m) ts = ap (λ (d : ℕ). open_behind d ts) (omega arith)

pub few-open : {most : ℕ} {t : Tag} {r r' : Rest} {os os' : List Open} → Moves most t r os (go r' os') → length os ≤ most → length os' ≤ most
few-open (enters l e) h = l
few-open (leaves e l) h = omega arith
few-open (closes e l m) h = omega arith

-- what goes on under one bound goes on under another, if no more are open then
pub under : (bound : ℕ) {most : ℕ} {t : Tag} {r r' : Rest} {os os' : List Open} → Moves most t r os (go r' os') → length os' ≤ bound → Moves bound t r os (go r' os')
under bound (enters l e) h = enters h e
under bound (leaves e l) h = leaves e l
under bound (closes e l m) h = closes e l m

-- ---- what the first tag does, whatever stands behind it
pub data First (most : ℕ) (t : Tag) (r : Rest) (os : List Open) : Type 0 where
  refuses : ((i : ℕ) (ts : List Tag) → nest_from most i r os (t ∷ ts) ≡ Some i) → First most t r os
  moves : (r' : Rest) (os' : List Open) → Moves most t r os (go r' os') → First most t r os

pub first : (most : ℕ) (t : Tag) (r : Rest) (os : List Open) → First most t r os
first most t r os = pick (step most t r os) refl (view most t r os)
  where
    pick : (s : Step) → step most t r os ≡ s → Moves most t r os s → First most t r os
    pick stop p m = refuses (λ i ts. stops most i t ts r os p)
    pick (go r' os') p m = moves r' os' m
