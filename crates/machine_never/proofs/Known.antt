-- A definition's own label is the only one that it holds. Assumes nothing.
use Rattle.std.proofs.Common.{Some, None}
use Rattle.std.specs.Prelude.{if◌then◌else◌}
use mathlib.Core.Path.{◌≡◌, refl}
use mathlib.Core.Bool.{Bool, true, false, not, ◌&&◌, ◌||◌}
use mathlib.Core.Logic.{◌⊎◌, inl, inr}
use mathlib.Core.List.{List, [], ◌∷◌, ◌++◌}
use Prim.Native.Nat.{ℕ, ◌≤◌}
use native.Mathlib.Omega.{arith}
use lib.Dec.{T, eqb, leb}
use borrow.Author.Tests.{ne_eqb, leb-true}
use Rattle.lent.specs.Bytes.{one_of}
use Rattle.normalize_identifier.specs.Identity.{identity_of}
use Rattle.check_labels.specs.Labels.{Part, label_of}
use Rattle.check_nesting.specs.Grammar.{name_of, holds, rules, kind_count}
use Rattle.check_nesting.specs.Nests.{Takes}
use Rattle.check_rules.specs.Elements.{Forest, nil, element, Paired}
use Rattle.machine.specs.Turn.{span_of}
use Rattle.machine_shape.specs.Fits.{every}
use Rattle.machine_shape.specs.Kinds.{below}
use Rattle.machine_shape.specs.Grown.{Kinds}
use Rattle.machine_shape.proofs.Says.{both, passed}
use Rattle.machine_shape.proofs.Test.{computed, kind-below}
use Rattle.machine_shape.proofs.Calm.{every_item, kinds-taken}
use Rattle.machine_never.specs.Values.{text_of}
use Rattle.machine_never.specs.Ghost.{Top, tops, IsKind, AreKinds}
use Rattle.machine_never.specs.Known.{Has, HasPart, AllIn}
use Rattle.machine_never.proofs.Tops.{one_of_two}
use Rattle.machine_never.proofs.Labels.{other_none, own-part, none_in}

-- ---- what a definition holds

abbrev plain_kind : ℕ → Bool
plain_kind k = one_of (5 ∷ 6 ∷ 7 ∷ 8 ∷ 9 ∷ 10 ∷ 11 ∷ []) k

abbrev definition_kind : ℕ → Bool
definition_kind k = one_of (5 ∷ 6 ∷ 7 ∷ 8 ∷ 9 ∷ 10 ∷ 11 ∷ 54 ∷ 55 ∷ 56 ∷ []) k

plain-all : T (below kind_count (λ k. not (plain_kind k) || (every_item plain_kind (holds k) && not (eqb (name_of k) 54))))
unfolding holds rules
plain-all = tt

definition-all : T (below kind_count (λ k. not (definition_kind k) || (every_item definition_kind (holds k) && not (eqb (name_of k) 65))))
unfolding holds rules
definition-all = tt

closing : (c : ℕ → Bool) (n : ℕ) → T (below kind_count (λ k. not (c k) || (every_item c (holds k) && not (eqb (name_of k) n)))) → (k : ℕ) → 5 ≤ name_of k → T (c k) → T (every_item c (holds k)) × (eqb (name_of k) n ≡ false)
closing c n t k l i = at (c k) (eqb (name_of k) n) refl (computed (λ k. not (c k) || (every_item c (holds k) && not (eqb (name_of k) n))) kind_count t k (kind-below k l)) i
  where
    at : (x y : Bool) → eqb (name_of k) n ≡ y → T (not x || (every_item c (holds k) && not y)) → T x → T (every_item c (holds k)) × (eqb (name_of k) n ≡ false)
    at true true e t i = absurd (both (every_item c (holds k)) false t).1
    at true false e t i = ((both (every_item c (holds k)) true t).0, e)
    at false y e t i = absurd i

-- no footnote's label
pub definition-no-65 : (text : List ℕ) {ks : List ℕ} {f : Forest} (ls : List (List ℕ)) → Takes (holds 53) ks → Kinds ks f → AllIn text 65 f ls
unfolding holds rules
definition-no-65 text ls w d = none_in text 65 (omega arith) definition_kind (closing definition_kind 65 definition-all) ls d (kinds-taken definition_kind w tt)

-- its own label, once
abbrev AllTop : List ℕ → ℕ → List Top → List (List ℕ) → Type 0
AllTop text n [] ls = Unit {0}
AllTop text n (x ∷ xs) ls = HasPart text (label_of n x.exit) ls × AllIn text n x.inside ls × AllTop text n xs ls

top_split : (text : List ℕ) (n : ℕ) (xs ys : List Top) (ls : List (List ℕ)) → AllTop text n (xs ++ ys) ls → AllTop text n xs ls × AllTop text n ys ls
top_split text n [] ys ls h = (tt, h)
top_split text n (x ∷ xs) ys ls (h, i, j) = let p = top_split text n xs ys ls j in ((h, i, p.0), p.1)

from-tops : (text : List ℕ) (n : ℕ) → 5 ≤ n → (f : Forest) (ls : List (List ℕ)) → Paired f → AllTop text n (tops f) ls → AllIn text n f ls
from-tops text n five nil ls r h = tt
from-tops text n five (element a f z g) ls (r, i, j) h = at (leb a.name 4) refl h (from-tops text n five f ls i) (from-tops text n five g ls j)
  where
    at : (x : Bool) → leb a.name 4 ≡ x → AllTop text n (if x then tops f ++ tops g else record { enter = a; inside = f; exit = z } ∷ tops g) ls
        → (AllTop text n (tops f) ls → AllIn text n f ls) → (AllTop text n (tops g) ls → AllIn text n g ls) → HasPart text (label_of n z) ls × AllIn text n f ls × AllIn text n g ls
    at true e h kf kg =
        let p = top_split text n (tops f) (tops g) ls h in
        let l = leb-true a.name 4 e in
        let nz : eqb z.name n ≡ false = ne_eqb z.name n (λ q. let u = r.2 in absurd (omega arith)) in
        (rw (other_none n z nz) tt, kf p.0, kg p.1)
    at false e (h, hf, hg) kf kg = (h, hf, kg hg)

plain-inside : (text : List ℕ) (x : Top) (k : ℕ) (ls : List (List ℕ)) → IsKind k x → T (every_item plain_kind (holds k)) → AllIn text 54 x.inside ls
plain-inside text x k ls h t = none_in text 54 (omega arith) plain_kind (closing plain_kind 54 plain-all) ls h.kinds (kinds-taken plain_kind h.takes t)

others-known : (text : List ℕ) (ks : List ℕ) (xs : List Top) (ls : List (List ℕ)) → AreKinds ks xs → T (every (λ k. one_of (55 ∷ 56 ∷ []) k) ks) → AllTop text 54 xs ls
unfolding holds rules
others-known text [] [] ls h t = tt
others-known text [] (x ∷ xs) ls h t = absurd h
others-known text (k ∷ ks) [] ls h t = absurd h
others-known text (k ∷ ks) (x ∷ xs) ls (h, i) t =
    let p = both (one_of (55 ∷ 56 ∷ []) k) (every (λ k. one_of (55 ∷ 56 ∷ []) k) ks) t in
    elim (one_of_two 55 56 k (passed (one_of (55 ∷ 56 ∷ []) k) p.0)) [
      | inl e ↦ let q : IsKind 55 x = rw e at h in (rw (other_none 54 x.exit (named-not 55 x q refl)) tt, plain-inside text x 55 ls q tt, others-known text ks xs ls i p.1)
      | inr e ↦ let q : IsKind 56 x = rw e at h in (rw (other_none 54 x.exit (named-not 56 x q refl)) tt, plain-inside text x 56 ls q tt, others-known text ks xs ls i p.1)
    ]
  where
    named-not : (k : ℕ) (x : Top) → IsKind k x → eqb (name_of k) 54 ≡ false → eqb x.exit.name 54 ≡ false
    named-not k x q e = rw (q.pair.2, q.named) e

pub definition-known : (text : List ℕ) (f : Forest) (x : Top) (ys : List Top) (ks : List ℕ) (ls : List (List ℕ)) → Paired f → tops f ≡ x ∷ ys → IsKind 54 x → AreKinds ks ys → T (every (λ k. one_of (55 ∷ 56 ∷ []) k) ks)
    → Has (identity_of (text_of text (span_of x.exit))) ls → AllIn text 54 f ls
unfolding holds rules
definition-known text f x ys ks ls r e h k t own = from-tops text 54 (omega arith) f ls r (rw e (here (label_of 54 x.exit) (own-part 54 x.exit), plain-inside text x 54 ls h tt, others-known text ks ys ls k t))
  where
    here : (y : Part) → (y ≡ None) ⊎ (y ≡ Some (x.exit.from.0, x.exit.to.0)) → HasPart text y ls
    here y (inl q) = rw q tt
    here y (inr q) = rw q own
