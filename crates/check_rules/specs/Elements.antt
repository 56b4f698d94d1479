-- An element of a list, as a tree over its events: what it holds, and what it seeks. Assumes nothing.
use Rattle.std.specs.Prelude.{◌≡◌, true, false, List, ◌∷◌, ℕ, eqb, leb, drop, if◌then◌else◌, Some, None}
use Rattle.event.specs.declared.Event.{Event}
use Rattle.event.specs.Event.{is_enter}
use Rattle.check_labels.specs.Labels.{Part, unless, or_else}

-- an element with its enter, what it holds and its exit, and what stands behind it
pub data Forest : Type 0 where
  nil : Forest
  element : (enter : Event) → (inside : Forest) → (exit : Event) → (behind : Forest) → Forest

-- its events, and es behind them
abbrev pub list_of : Forest → List Event → List Event
list_of nil es = es
list_of (element a f z g) es = a ∷ list_of f (z ∷ list_of g es)

-- enters and exits pair by name
abbrev pub Pair : (enter exit : Event) → Type 0
Pair a z = (is_enter a ≡ true) × (is_enter z ≡ false) × (z.name ≡ a.name)

abbrev pub Paired : Forest → Type 0
Paired nil = Unit
Paired (element a f z g) = Pair a z × Paired f × Paired g

-- the element whose enter is the event k of a list, with what it holds
pub record ElementAt (es : List Event) (k : ℕ) (enter : Event) (inside : Forest) : Type 0 where
  pub exit : Event
  pub rest : List Event
  pub here : drop k es ≡ enter ∷ list_of inside (exit ∷ rest)
  pub pair : Pair enter exit
  pub paired : Paired inside

-- the slice of its first child named n: RULES R3.2 says whose children those in a 0, 1 or 2 are, and 3 and 4 are empty
abbrev pub child_of : ℕ → Forest → Part
child_of n nil = None
child_of n (element a f z g) =
    if leb a.name 4 then or_else (child_of n f) (child_of n g)
    else (if eqb a.name n then Some (z.from.0, z.to.0)
    else child_of n g)

-- and of the first n that a child holds
abbrev pub grandchild_of : ℕ → Forest → Part
grandchild_of n nil = None
grandchild_of n (element a f z g) =
    if leb a.name 4 then or_else (grandchild_of n f) (grandchild_of n g)
    else or_else (child_of n f) (grandchild_of n g)

-- what a link, image or call seeks: without 49, 52's slice, else 48's, which its 47 holds; with neither, nothing
abbrev pub sought_in : Forest → Part
sought_in f = unless (child_of 49 f) (or_else (child_of 52 f) (grandchild_of 48 f))
