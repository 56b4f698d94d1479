-- The place that the pass gives: no list that begins with the tags up to it nests, or it is the 65th open. Assumes nothing.
use Rattle.std.proofs.Common.{Some, None, ◌≡◌, refl, sym, ap, ◌∙◌, List, [], ◌∷◌, ◌++◌, ℕ, zero, suc, ◌+◌, ◌/◌, ◌≤◌, ◌<◌, arith, add-one, length, take, drop}
use Rattle.check_nesting.specs.Grammar.{whole}
use Rattle.check_nesting.specs.Tag.{Tag, tags, tags_of, open_behind}
use Rattle.check_nesting.specs.Nests.{NestsWithin}
use Rattle.check_nesting.specs.Pass.{Rest, rest, Open, nest_from, nest_of}
use Rattle.check_nesting.proofs.Step.{closed-end, open-end, goes, move-open, under, refuses, moves, first}
use Rattle.check_nesting.proofs.Passes.{passes-within}
use Rattle.check_nesting.proofs.Grows.{on}

-- it is one of the tags, or their end
placed : (most : ℕ) (ts : List Tag) (i j : ℕ) (r : Rest) (os : List Open) → nest_from most i r os ts ≡ Some j → (i ≤ j) × (j ≤ i + length ts)
placed most [] i j r [] e = let c = closed-end most i r in let z : ◌≡◌ {A = ℕ} 0 1 = cc in absurd (omega arith)
placed most [] i j r (o ∷ os) e = let c = open-end most i r o os in let z : i ≡ j = cc in (omega arith, omega arith)
placed most (t ∷ ts) i j r os e = elim (first most t r os) [
  | refuses f ↦ let c = f i ts in let z : i ≡ j = cc in (omega arith, omega arith)
  | moves r' os' m ↦ let l = placed most ts (i + 1) j r' os' (sym (goes i ts m) ∙ e) in (omega arith, omega arith)
]

pub within : (ts : List Tag) (i : ℕ) → nest_of ts ≡ Some i → i ≤ length ts
unfolding nest_of
within ts i e = let p = placed 64 ts 0 i (rest whole) [] e in omega arith

-- ---- over that tag no pass goes on under another bound, unless more are open there than the bound lets

-- a tag that two passes go over: one that stops at p among the ts behind it, and one to the end of vs
record Over (bound most i p : ℕ) (ts us vs : List Tag) : Type 0 where
  to : Rest
  now-open : List Open
  at : ℕ
  stopped : nest_from bound (i + 1) to now-open ts ≡ Some p
  few : (k : ℕ) → open_behind (length now-open) (take k us) ≤ bound
  passed : nest_from most at to now-open vs ≡ None

over : (bound most i j p : ℕ) (t : Tag) (ts us vs : List Tag) (r : Rest) (os : List Open) → nest_from bound i r os (t ∷ ts) ≡ Some p
    → ((k : ℕ) → open_behind (length os) (take k (t ∷ us)) ≤ bound) → nest_from most j r os (t ∷ vs) ≡ None → Over bound most i p ts us vs
over bound most i j p t ts us vs r os e o y =
    let w = on most j r os t vs y in
    let l : length w.now-open ≤ bound = rw (← move-open w.move []) (o 1) in
    record {
      to = w.to;
      now-open = w.now-open;
      at = w.at;
      stopped = sym (goes i ts (under bound w.move l)) ∙ e;
      few = λ k. rw (move-open w.move (take k us)) at (o (suc k));
      passed = w.more;
    }

stuck : (bound most n : ℕ) (ts more : List Tag) (i j : ℕ) (r : Rest) (os : List Open) → nest_from bound i r os ts ≡ Some (i + n) → n < length ts
    → ((k : ℕ) → open_behind (length os) (take k (take (suc n) ts)) ≤ bound) → nest_from most j r os (take (suc n) ts ++ more) ≡ None → ⊥
stuck bound most n [] more i j r os e h o y = absurd (omega arith)
stuck bound most zero (t ∷ ts) more i j r os e h o y =
    let w = over bound most i j (i + 0) t ts [] more r os e o y in
    let l = placed bound ts (i + 1) (i + 0) w.to w.now-open w.stopped in
    omega arith
stuck bound most (suc n) (t ∷ ts) more i j r os e h o y =
    let z : i + suc n ≡ i + 1 + n = omega arith in
    let w = over bound most i j (i + 1 + n) t ts (take (suc n) ts) (take (suc n) ts ++ more) r os (rw z at e) o y in
    stuck bound most n ts more (i + 1) w.at w.to w.now-open w.stopped (omega arith) w.few w.passed

pub at-fault : (ts : List Tag) (i : ℕ) → nest_of ts ≡ Some i → i < length ts → ((k : ℕ) → open_behind 0 (take k (take (i + 1) ts)) ≤ 64)
    → (most : ℕ) (more : List Tag) → NestsWithin most (take (i + 1) ts ++ more) → ⊥
unfolding nest_of
at-fault ts i e h o most more w =
    let z : i ≡ 0 + i = omega arith in
    stuck 64 most i ts more 0 0 (rest whole) [] (rw z at e) h (rw add-one at o) (rw add-one at (passes-within most (take (i + 1) ts ++ more) w 0))

-- the tags are as many as the records
counted : (n : ℕ) (b : List ℕ) → length (tags n b) ≡ n
counted zero b = refl
counted (suc n) b = ap suc (counted n (drop 20 b))

pub count : (b : List ℕ) → length (tags_of b) ≡ length b / 20
count b = counted (length b / 20) b
