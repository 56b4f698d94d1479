-- What it means that a list nests (RULES R3): it is the events of a forest whose elements hold what they may. Assumes nothing.
use Rattle.std.specs.Prelude.{◌≡◌, true, List, [], ◌∷◌, ◌++◌, ℕ, suc, max, ◌≤◌}
use Rattle.lent.specs.Bytes.{one_of}
use Rattle.check_nesting.specs.Grammar.{Item, one, opt, any, chain, name_of, holds, whole}
use Rattle.check_nesting.specs.Tag.{Tag, enter, exit}

-- an element with its name and what it holds, and what stands behind it
pub data Forest : Type 0 where
  nil : Forest
  tree : ℕ → Forest → Forest → Forest

-- its events, and ts behind them
abbrev pub events : Forest → List Tag → List Tag
events nil ts = ts
events (tree n cs f) ts = enter n ∷ events cs (exit n ∷ events f ts)

-- how many elements are open at once
abbrev pub depth : Forest → ℕ
depth nil = 0
depth (tree n cs f) = max (suc (depth cs)) (depth f)

-- children of the kinds cs are what the items ask for, in order
pub data Takes : List Item → List ℕ → Type 0 where
  nothing : Takes [] []
  -- one of ks, then what the other items ask for
  one-taken : {k : ℕ} {ks cs : List ℕ} {is : List Item} → one_of ks k ≡ true → Takes is cs → Takes (one ks ∷ is) (k ∷ cs)
  -- [one of ks]
  opt_none : {ks cs : List ℕ} {is : List Item} → Takes is cs → Takes (opt ks ∷ is) cs
  opt-taken : {k : ℕ} {ks cs : List ℕ} {is : List Item} → one_of ks k ≡ true → Takes is cs → Takes (opt ks ∷ is) (k ∷ cs)
  -- any number of ks
  any_none : {ks cs : List ℕ} {is : List Item} → Takes is cs → Takes (any ks ∷ is) cs
  any-taken : {k : ℕ} {ks cs : List ℕ} {is : List Item} → one_of ks k ≡ true → Takes (any ks ∷ is) cs → Takes (any ks ∷ is) (k ∷ cs)
  -- [9 [10]]
  chain-none : {ks cs : List ℕ} {is : List Item} → Takes is cs → Takes (chain ks ∷ is) cs
  chain-taken : {k : ℕ} {ks cs : List ℕ} {is : List Item} → Takes (chain ks ∷ is) cs → Takes (chain (k ∷ ks) ∷ is) (k ∷ cs)

-- the children that a forest gives its parent are of the kinds ks, and hold what these may hold
pub data Children : List ℕ → Forest → Type 0 where
  none : Children [] nil
  -- RULES R3.2: what a 0, 1 or 2 holds counts as a child of the next parent around it
  through : {n : ℕ} {ks ls : List ℕ} {cs f : Forest} → n ≤ 2 → Children ks cs → Children ls f → Children (ks ++ ls) (tree n cs f)
  -- 3 and 4 may stand anywhere and hold nothing
  empty : {n : ℕ} {ls : List ℕ} {f : Forest} → 3 ≤ n → n ≤ 4 → Children ls f → Children ls (tree n nil f)
  -- any other
  child : {k : ℕ} {ks ls : List ℕ} {cs f : Forest} → 5 ≤ name_of k → Takes (holds k) ks → Children ks cs → Children ls f → Children (k ∷ ls) (tree (name_of k) cs f)

-- enters and exits pair by name: the list is a forest's, which the whole takes, with at most `most` open at once
pub record NestsWithin (most : ℕ) (ts : List Tag) : Type 0 where
  pub forest : Forest
  pub kinds : List ℕ
  pub same : ts ≡ events forest []
  pub fits : Children kinds forest
  pub takes : Takes whole kinds
  pub deep : depth forest ≤ most

-- at most 64 are open at once
abbrev pub Nests : List Tag → Type 0
Nests ts = NestsWithin 64 ts
