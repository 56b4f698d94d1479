-- Refusal 7 (RULES R7.5): links, images and calls whose label no definition has. Assumes nothing.
use Rattle.std.specs.Prelude.{Bool, true, not, ◌&&◌, List, [], ◌∷◌, ℕ, ◌+◌, ◌-◌, eqb, leb, take, drop, if◌then◌else◌, Option, Some, None}
use Rattle.lent.specs.Bytes.{listed}
use Rattle.event.specs.declared.Event.{Event}
use Rattle.event.specs.Event.{is_enter, named, events_of}
use Rattle.normalize_identifier.specs.Identity.{identity_of}
use Rattle.check_labels.specs.declared.Turn.{Turn}
use Rattle.check_labels.specs.declared.Turn.TheVariants.{On, Own, Out}

-- a part of an element: its slice, from a place to another, or none
abbrev pub Part : Type 0
Part = Option (ℕ × ℕ)

-- the text from a place to another, as much of it as there is
abbrev pub slice : List ℕ → (from to : ℕ) → List ℕ
slice text from to = take (to - from) (drop from text)

-- ---- definitions

-- the slice that the exit of an n has
unfoldable pub label_of : ℕ → Event → Part
label_of n e =
    if is_enter e then None
    else (if eqb e.name n then Some (e.from.0, e.to.0)
    else None)

-- the identities of the labels of the definitions (n is 54) or of the footnote definitions (65)
unfoldable pub identities : ℕ → List ℕ → List Event → List (List ℕ)
identities n text [] = []
identities n text (e ∷ es) = elim (label_of n e) [ Some (from, to) ↦ identity_of (slice text from to) ∷ identities n text es | None ↦ identities n text es ]

-- ---- what a link, image or call has

-- What an event is to an element in which depth are open: its own exit, the exit of its part n, at which as many are open as at says,
-- or passed. Names 0 to 4 may stand anywhere and are not counted.
unfoldable pub turn_of : (n at depth : ℕ) → Event → Turn
turn_of n at depth e =
    if leb e.name 4 then On depth
    else (if is_enter e then On (depth + 1)
    else (if eqb depth 0 then Out
    else (if eqb depth at && eqb e.name n then Own e.from.0 e.to.0
    else On (depth - 1))))

-- the slice of an element's own part n: es are the events behind its enter, or behind what was passed
unfoldable pub own_part : (n at depth : ℕ) → List Event → Part
own_part n at depth [] = None
own_part n at depth (e ∷ es) = elim (turn_of n at depth e) [ On d ↦ own_part n at d es | Own from to ↦ Some (from, to) | Out ↦ None ]

abbrev pub unless : Part → Part → Part
unless (Some s) p = None
unless None p = p

abbrev pub or_else : Part → Part → Part
or_else (Some s) p = Some s
or_else None p = p

-- without 49, 52's slice, else 48's, which stands in its 47; with neither, none is sought
unfoldable pub sought_of : List Event → Part
sought_of es = unless (own_part 49 1 0 es) (or_else (own_part 52 1 0 es) (own_part 48 2 0 es))

-- ---- the answer

-- whether the identity of what is sought is one of ids
unfoldable pub is_defined : List ℕ → List (List ℕ) → Part → Bool
is_defined text ids (Some (from, to)) = listed ids (identity_of (slice text from to))
is_defined text ids None = true

-- an event, with those behind it, is no enter of a link or image whose label no definition among all events has, and none of a call whose label no footnote definition has
unfoldable pub label_holds : List ℕ → List Event → Event → List Event → Bool
label_holds text events e behind =
    if not (is_enter e) then true
    else (if named (45 ∷ 46 ∷ []) e then is_defined text (identities 54 text events) (sought_of behind)
    else (if named (62 ∷ []) e then is_defined text (identities 65 text events) (sought_of behind)
    else true))

-- the first of the events from i on that does not hold
unfoldable pub undefined_from : List ℕ → List Event → ℕ → List Event → Option ℕ
undefined_from text events i [] = None
undefined_from text events i (e ∷ es) = if label_holds text events e es then undefined_from text events (i + 1) es else Some i

unfoldable pub undefined_of : (text events : List ℕ) → Option ℕ
undefined_of text events = undefined_from text (events_of events) 0 (events_of events)
