-- The code's tables, in which what may come next is a number: words that only the contracts of private functions use. Assumes nothing.
use Rattle.std.specs.Prelude.{◌≡◌, Bool, true, false, List, [], ◌∷◌, ℕ, ◌+◌, ◌*◌, ◌≤◌, ◌<◌, eqb, leb, length, get_or, if◌then◌else◌, Option, Some, None}
use Rattle.check_nesting.specs.declared.Entry.{Entry}
use Rattle.check_nesting.specs.Grammar.{one, opt, any, chain, flow, inline, plain, name_count, bullet_item, bullet_prefix, second_fence, call_label}
use Rattle.check_nesting.specs.Pass.{Rest, shut, rest, Turn, refused, entered, turn, may_end}

-- by its number: 0 is in 3 and 4, 1 the whole
unfoldable pub states : List Rest
states =
    shut
    ∷ rest (any flow ∷ [])
    ∷ rest []
    ∷ rest (any inline ∷ [])
    ∷ rest (any plain ∷ [])
    ∷ rest (one (8 ∷ []) ∷ chain (9 ∷ 10 ∷ []) ∷ one (11 ∷ []) ∷ [])
    ∷ rest (chain (9 ∷ 10 ∷ []) ∷ one (11 ∷ []) ∷ [])
    ∷ rest (chain (10 ∷ []) ∷ one (11 ∷ []) ∷ [])
    ∷ rest (chain [] ∷ one (11 ∷ []) ∷ [])
    ∷ rest (one (14 ∷ []) ∷ opt (15 ∷ []) ∷ opt (14 ∷ []) ∷ [])
    ∷ rest (opt (15 ∷ []) ∷ opt (14 ∷ []) ∷ [])
    ∷ rest (opt (14 ∷ []) ∷ [])
    ∷ rest (one (17 ∷ []) ∷ one (18 ∷ []) ∷ [])
    ∷ rest (one (18 ∷ []) ∷ [])
    ∷ rest (one (23 ∷ []) ∷ any (23 ∷ []) ∷ [])
    ∷ rest (any (23 ∷ []) ∷ [])
    ∷ rest (one (bullet_item ∷ []) ∷ any (bullet_item ∷ []) ∷ [])
    ∷ rest (any (bullet_item ∷ []) ∷ [])
    ∷ rest (one (24 ∷ []) ∷ any flow ∷ [])
    ∷ rest (one (bullet_prefix ∷ []) ∷ any flow ∷ [])
    ∷ rest (one (26 ∷ []) ∷ one (25 ∷ []) ∷ [])
    ∷ rest (one (25 ∷ []) ∷ [])
    ∷ rest (any (32 ∷ []) ∷ [])
    ∷ rest (one (29 ∷ []) ∷ any (32 ∷ []) ∷ opt (second_fence ∷ []) ∷ [])
    ∷ rest (any (32 ∷ []) ∷ opt (second_fence ∷ []) ∷ [])
    ∷ rest (opt (30 ∷ []) ∷ opt (31 ∷ []) ∷ [])
    ∷ rest (opt (31 ∷ []) ∷ [])
    ∷ rest (any (34 ∷ []) ∷ [])
    ∷ rest (any (36 ∷ []) ∷ [])
    ∷ rest (any (38 ∷ []) ∷ [])
    ∷ rest (one (47 ∷ []) ∷ opt (49 ∷ 52 ∷ []) ∷ [])
    ∷ rest (opt (49 ∷ 52 ∷ []) ∷ [])
    ∷ rest (one (call_label ∷ []) ∷ [])
    ∷ rest (opt (48 ∷ []) ∷ [])
    ∷ rest (one (48 ∷ []) ∷ [])
    ∷ rest (opt (50 ∷ []) ∷ opt (51 ∷ []) ∷ [])
    ∷ rest (opt (51 ∷ []) ∷ [])
    ∷ rest (one (54 ∷ []) ∷ opt (55 ∷ []) ∷ opt (56 ∷ []) ∷ [])
    ∷ rest (opt (55 ∷ []) ∷ opt (56 ∷ []) ∷ [])
    ∷ rest (opt (56 ∷ []) ∷ [])
    ∷ rest (one (58 ∷ []) ∷ opt (59 ∷ []) ∷ [])
    ∷ rest (opt (59 ∷ []) ∷ [])
    ∷ rest (one (60 ∷ []) ∷ [])
    ∷ rest (one (60 ∷ []) ∷ any (60 ∷ []) ∷ [])
    ∷ rest (any (60 ∷ []) ∷ [])
    ∷ rest (any (61 ∷ []) ∷ [])
    ∷ rest (one (64 ∷ []) ∷ any flow ∷ [])
    ∷ rest (one (65 ∷ []) ∷ [])
    ∷ []

unfoldable pub state : ℕ → Rest
unfolding states
state q = get_or states q shut

abbrev pub IsState : Rest → ℕ → Type 0
IsState r x = (x < 48) × (state x ≡ r)

-- an answer says what becomes of an element
abbrev pub Enters : Turn → Option Entry → Type 0
Enters refused None = Unit {0}
Enters refused (Some x) = ⊥
Enters (entered inside behind) None = ⊥
Enters (entered inside behind) (Some x) = IsState inside x.inside × IsState behind x.behind

-- an answer says what becomes of an exit
abbrev pub Leaves : Option Rest → Option ℕ → Type 0
Leaves None None = Unit {0}
Leaves None (Some x) = ⊥
Leaves (Some r) None = ⊥
Leaves (Some r) (Some x) = IsState r x

-- where the entry of the name n at the state q lies
abbrev pub place_of : List ℕ → ℕ → ℕ → ℕ
place_of states q n = (get_or states (q * 2) 0 + n) * 3

abbrev pub into : (inside behind : ℕ) → Option Entry
into inside behind = Some (record { inside = inside; behind = behind })

-- an entry of the state q, or of another
abbrev pub entry_at : List ℕ → ℕ → ℕ → Option Entry
entry_at entries q at = if eqb (get_or entries at 0) q then into (get_or entries (at + 1) 0) (get_or entries (at + 2) 0) else None

-- what is looked up
abbrev pub looked : List ℕ → List ℕ → ℕ → ℕ → Option Entry
looked states entries q n =
    if leb n 4 then (if eqb q 0 then None else (if leb n 2 then into q q else into 0 q))
    else entry_at entries q (place_of states q n)

-- 1 where nothing more has to come
abbrev pub flag : Bool → ℕ
flag true = 1
flag false = 0

-- 2 bytes to a state
pub record States (states : List ℕ) : Type 0 where
  pub long : length states ≡ 96
  pub places : (q : ℕ) → q < 48 → get_or states (q * 2) 0 ≤ 39
  pub ends : (q : ℕ) → q < 48 → get_or states (q * 2 + 1) 0 ≡ flag (may_end (state q))

-- 3 bytes to an entry
pub record Tables (states entries : List ℕ) : Type 0 where
  pub rows : States states
  pub long : length entries ≡ (39 + name_count) * 3
  pub agree : (q n : ℕ) → q < 48 → n < name_count → Enters (turn (state q) n) (looked states entries q n)
