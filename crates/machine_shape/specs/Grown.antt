-- A forest of events whose elements hold what RULES R3 lets them hold. Assumes nothing.
use Rattle.std.specs.Prelude.{◌≡◌, Bool, List, [], ◌∷◌, ◌++◌, ℕ, suc, max, ◌≤◌, T}
use Rattle.event.specs.declared.Event.{Event}
use Rattle.check_nesting.specs.Grammar.{name_of, holds}
use Rattle.check_nesting.specs.Nests.{Takes}
use Rattle.check_rules.specs.Elements.{Forest, nil, element, Pair}

-- the children that a forest gives its parent are of these kinds: `Children` of crate nesting, over events
pub data Kinds : List ℕ → Forest → Type 0 where
  none : Kinds [] nil
  -- 0 to 4 are allowed at every place; 3 and 4 are empty
  through : {a z : Event} {ks ls : List ℕ} {f g : Forest} → a.name ≤ 4 → Pair a z → Kinds ks f → Kinds ls g → Kinds (ks ++ ls) (element a f z g)
  child : {a z : Event} {k : ℕ} {ks ls : List ℕ} {f g : Forest} → a.name ≡ name_of k → 5 ≤ name_of k → Pair a z → Takes (holds k) ks → Kinds ks f → Kinds ls g → Kinds (k ∷ ls) (element a f z g)

-- how many elements are open at once
abbrev pub deep : Forest → ℕ
deep nil = 0
deep (element a f z g) = max (suc (deep f)) (deep g)

-- an element of the forest: 0 to 4, or one of a kind among some
pub data Element (c : ℕ → Bool) (a : Event) (f : Forest) (z : Event) : Type 0 where
  thin : {ks : List ℕ} → a.name ≤ 4 → Pair a z → Kinds ks f → Element c a f z
  thick : (j : ℕ) {ks : List ℕ} → T (c j) → a.name ≡ name_of j → 5 ≤ name_of j → Pair a z → Takes (holds j) ks → Kinds ks f → Element c a f z
