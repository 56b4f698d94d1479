-- The pass for 4: the event at which the list does not nest, if there is one. Assumes nothing.
use Rattle.std.specs.Prelude.{Bool, true, false, ◌&&◌, ◌||◌, List, [], ◌∷◌, ℕ, ◌+◌, eqb, leb, length, if◌then◌else◌, Option, Some, None}
use Rattle.check_nesting.specs.Grammar.{Item, one, opt, any, chain, name_of, holds, whole}
use Rattle.check_nesting.specs.Tag.{Tag, enter, exit}

-- ---- along a rule

-- a child is refused, or taken as a kind with what may come behind it
pub data Taken : Type 0 where
  refuse : Taken
  take : ℕ → List Item → Taken

abbrev pub among : List ℕ → ℕ → List Item → Taken → Taken
among [] n behind other = other
among (k ∷ ks) n behind other = if eqb (name_of k) n then take k behind else among ks n behind other

-- the child named n next
abbrev pub next : List Item → ℕ → Taken
next [] n = refuse
next (one ks ∷ is) n = among ks n is refuse
next (opt ks ∷ is) n = among ks n is (next is n)
next (any ks ∷ is) n = among ks n (any ks ∷ is) (next is n)
next (chain [] ∷ is) n = next is n
next (chain (k ∷ ks) ∷ is) n = among (k ∷ []) n (chain ks ∷ is) (next is n)

-- whether nothing more has to come
abbrev pub done : List Item → Bool
done [] = true
done (one ks ∷ is) = false
done (opt ks ∷ is) = done is
done (any ks ∷ is) = done is
done (chain ks ∷ is) = done is

-- ---- along the list

-- what may come next: nothing at all, in 3 and 4; else 0 to 4, and what the items take
pub data Rest : Type 0 where
  shut : Rest
  rest : List Item → Rest
  deriving Discrete as Rest-discrete

-- an element is refused, or entered: what may come in it, and behind it
pub data Turn : Type 0 where
  refused : Turn
  entered : Rest → Rest → Turn

abbrev pub child : Taken → Turn
child refuse = refused
child (take k behind) = entered (rest (holds k)) (rest behind)

-- 0 to 2 leave all to their parent, 3 and 4 hold nothing
unfoldable pub turn : Rest → ℕ → Turn
turn shut n = refused
turn (rest is) n =
    if leb n 2 then entered (rest is) (rest is)
    else (if leb n 4 then entered shut (rest is)
    else child (next is n))

abbrev pub may_end : Rest → Bool
may_end shut = true
may_end (rest is) = done is

-- an open element: its name, and what may come behind it
pub record Open : Type 0 where
  pub name : ℕ
  pub behind : Rest

-- a tag does not fit, or goes on: with what may come next, and the open elements, newest first
pub data Step : Type 0 where
  stop : Step
  go : Rest → List Open → Step

abbrev pub opened : ℕ → List Open → Turn → Step
opened n os refused = stop
opened n os (entered inside behind) = go inside (record { name = n; behind = behind } ∷ os)

-- an exit is of the newest open, with nothing missing: what may come next, or none
unfoldable pub leave : Rest → Open → ℕ → Option Rest
leave r o n =
    if eqb o.name n && (leb n 2 || may_end r) then Some (if leb n 2 then r else o.behind)
    else None

abbrev pub closed : List Open → Option Rest → Step
closed os None = stop
closed os (Some r) = go r os

-- at most `most` are open
unfoldable pub step : (most : ℕ) → Tag → Rest → List Open → Step
step most (enter n) r os = if leb most (length os) then stop else opened n os (turn r n)
step most (exit n) r [] = stop
step most (exit n) r (o ∷ os) = closed os (leave r o n)

abbrev pub ended : ℕ → List Open → Option ℕ
ended i [] = None
ended i (o ∷ os) = Some i

-- from the tag i on
unfoldable pub nest_from : (most i : ℕ) → Rest → List Open → List Tag → Option ℕ
nest_from most i r os [] = ended i os
nest_from most i r os (t ∷ ts) = elim (step most t r os) [ stop ↦ Some i | go r' os' ↦ nest_from most (i + 1) r' os' ts ]

-- at most 64 are open
unfoldable pub nest_of : List Tag → Option ℕ
nest_of ts = nest_from 64 0 (rest whole) [] ts
