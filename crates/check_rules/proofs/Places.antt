-- Each rule's first place is one place. Assumes nothing.
use Rattle.std.proofs.Common.{◌≡◌, List, ◌++◌, append_assoc, ℕ, ◌+◌, ◌≤◌, ◌<◌, lt_of_not-le, arith, length, take, drop, take-append-drop, length-take, take-take, take_all}
use native.Mathlib.Decide.{dec_lt, dec_le}
use Rattle.event.specs.declared.Event.{Event}
use Rattle.check_nesting.specs.Tag.{Tag}
use Rattle.check_rules.specs.Rules.{CountsMeet, Earliest, TooMany, InOrder, Misplaced}
use Rattle.check_rules.proofs.Counts.{counts-prefix}

-- two numbers, neither below the other
same : (i j : ℕ) → (i < j → ⊥) → (j < i → ⊥) → i ≡ j
same i j p q = elim (dec_lt i j) [ yes h ↦ absurd (p h) | no h ↦ elim (dec_lt j i) [ yes k ↦ absurd (q k) | no k ↦ omega arith ] ]

pub one-earliest : {events : List ℕ} {Rule : ℕ → Type 0} {i j : ℕ} → Earliest events Rule i → Earliest events Rule j → i ≡ j
one-earliest {i = i} {j = j} x y = same i j (λ h. x.breaks (y.before i h)) (λ h. y.breaks (x.before j h))

-- what holds of a list holds of its first elements
module _ {A : Type 0} (P : List A → Type 0) (prefix : (n : ℕ) (xs : List A) → P xs → P (take n xs)) where
  shorter : (xs : List A) (i j : ℕ) → i < j → P (take j xs) → P (take (i + 1) xs)
  shorter xs i j h p = let l : i + 1 ≤ j = omega arith in rw (take-take (i + 1) j xs l) at (prefix (i + 1) (take j xs) p)

pub one-too-many : {es : List Event} {i j : ℕ} → TooMany es i → TooMany es j → i ≡ j
one-too-many {es} {i} {j} x y =
    same i j (λ h. x.breaks (shorter CountsMeet counts-prefix es i j h y.before)) (λ h. y.breaks (shorter CountsMeet counts-prefix es j i h x.before))

-- events that are in order are so up to each of them
in_order : (n : ℕ) (ts : List Tag) → InOrder ts → InOrder (take n ts)
in_order n ts w =
    record {
      more = drop n ts ++ w.more;
      most = w.most;
      nests = rw (← append_assoc, take-append-drop) w.nests;
      few = λ k. elim (dec_le k n) [
        | yes h ↦ rw (take-take k n ts h) (w.few k)
        | no h ↦ let l : length (take n ts) ≤ k = omega (arith, length-take n ts, lt_of_not-le h) in rw (take_all k (take n ts) l) (w.few n)
      ];
    }

pub one-misplaced : {ts : List Tag} {i j : ℕ} → Misplaced ts i → Misplaced ts j → i ≡ j
one-misplaced {ts} {i} {j} x y =
    let l = x.within in
    let m = y.within in
    same i j (λ h. x.fault (omega arith) (shorter InOrder in_order ts i j h y.before)) (λ h. y.fault (omega arith) (shorter InOrder in_order ts j i h x.before))
