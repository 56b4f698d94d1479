-- A list that nests passes. Assumes nothing.
use Rattle.std.proofs.Common.{None, ◌≡◌, refl, ◌∙◌, List, [], ◌∷◌, ℕ, ◌+◌, ◌≤◌, ◌<◌, arith, length, le-leb}
use borrow.Author.Tests.{lt-leb}
use Rattle.check_nesting.specs.Grammar.{Item, name_of, holds, whole}
use Rattle.check_nesting.specs.Tag.{Tag, enter, exit}
use Rattle.check_nesting.specs.Nests.{Forest, nil, events, depth, Children, none, through, empty, child, NestsWithin, Nests}
use Rattle.check_nesting.specs.Pass.{take, next, Rest, shut, rest, entered, turn, Open, go, nest_from, nest_of}
use Rattle.check_nesting.proofs.Clear.{clear-holds}
use Rattle.check_nesting.proofs.Steps.{Steps, stay, along, takes-steps, steps-split}
use Rattle.check_nesting.proofs.Step.{closed-end, Moves, enters, leaves, closes, goes}

abbrev pub Passes : (most : ℕ) → Rest → List Open → List Tag → Type 0
Passes most r os ts = (i : ℕ) → nest_from most i r os ts ≡ None

abbrev pub opens : ℕ → Rest → Open
opens n behind = record { name = n; behind = behind }

module _ (q : List Item) (n : ℕ) where
  turn-through : n ≤ 2 → turn (rest q) n ≡ entered (rest q) (rest q)
  unfolding turn
  turn-through h = rw (le-leb n 2 h)

  turn-empty : 3 ≤ n → n ≤ 4 → turn (rest q) n ≡ entered shut (rest q)
  unfolding turn
  turn-empty h k = rw (lt-leb n 2 h, le-leb n 4 k)

  turn-child : {k : ℕ} {r : List Item} → 5 ≤ n → next q n ≡ take k r → turn (rest q) n ≡ entered (rest (holds k)) (rest r)
  unfolding turn
  turn-child h e = rw (lt-leb n 2 (omega arith), lt-leb n 4 h, e)

-- an element, what it holds, and what stands behind it
element : (most : ℕ) (r : Rest) (cs : Forest) (ts : List Tag) {n : ℕ} {os : List Open} {inside behind last after : Rest} → length os < most
    → turn r n ≡ entered inside behind
    → (Passes most last (opens n behind ∷ os) (exit n ∷ ts) → Passes most inside (opens n behind ∷ os) (events cs (exit n ∷ ts)))
    → Moves most (exit n) last (opens n behind ∷ os) (go after os)
    → Passes most after os ts
    → Passes most r os (enter n ∷ events cs (exit n ∷ ts))
element most r cs ts {n} l e held x p i = goes i (events cs (exit n ∷ ts)) (enters l e) ∙ held (λ j. goes j ts x ∙ p (j + 1)) (i + 1)

pub pass : (most : ℕ) {ks : List ℕ} {f : Forest} → Children ks f → (q t : List Item) → Steps q ks t → (os : List Open) (ts : List Tag) → length os + depth f ≤ most
    → Passes most (rest t) os ts → Passes most (rest q) os (events f ts)
pass most none q t stay os ts d p = p
pass most (through {n} {ks} {ls} {cs} {f} h a b) q t s os ts d p =
    let c = steps-split ks ls s in
    element most (rest q) cs (events f ts) (omega arith) (turn-through q n h)
    (λ x. pass most a q c.0 c.1 (opens n (rest q) ∷ os) (exit n ∷ events f ts) (omega arith) x)
    (leaves refl h)
    (pass most b c.0 t c.2 os ts (omega arith) p)
pass most (empty {n} {ls} {f} h k b) q t s os ts d p =
    element most (rest q) nil (events f ts) (omega arith) (turn-empty q n h k) (λ x. x) (closes refl h refl) (pass most b q t s os ts (omega arith) p)
pass most (child {k} {ks} {ls} {cs} {f} h w a b) q t (along {r = r} e s) os ts d p =
    let n = name_of k in
    let c = takes-steps (holds k) ks (clear-holds k) w in
    element most (rest q) cs (events f ts) (omega arith) (turn-child q n h e)
    (λ x. pass most a (holds k) c.0 c.1 (opens n (rest r) ∷ os) (exit n ∷ events f ts) (omega arith) x)
    (closes refl (omega arith) c.2)
    (pass most b r t s os ts (omega arith) p)

-- at most `most` deep
pub passes-within : (most : ℕ) (ts : List Tag) → NestsWithin most ts → Passes most (rest whole) [] ts
passes-within most ts w =
    let c = takes-steps whole w.kinds refl w.takes in
    let d : 0 + depth w.forest ≤ most = omega (arith, w.deep) in
    rw w.same (pass most w.fits whole c.0 c.1 [] [] d (λ i. closed-end most i (rest c.0)))

pub nests-yes : (ts : List Tag) → Nests ts → nest_of ts ≡ None
unfolding nest_of
nests-yes ts w = passes-within 64 ts w 0
