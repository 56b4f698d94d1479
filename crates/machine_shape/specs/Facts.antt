-- What a stop depends on: facts of a state that a test answers, by number. Assumes nothing.
use Rattle.std.specs.Prelude.{Bool, true, false, not, List, [], ◌∷◌, ℕ, eqb, leb, ltb, length}
use Rattle.std.proofs.Math.Option.{Option, none, some}
use Rattle.machine.specs.State.{State, Table, Destination, no_destination, own, defined, Media}
use Rattle.machine.specs.Media.{own_of}
use Rattle.machine.specs.Totals.{size, media_sizes}
use Rattle.machine_bounded.specs.Within.{newest_is_bare}

abbrev pub is_set : {A : Type 0} → Option A → Bool
is_set none = false
is_set (some a) = true

-- ---- of what waits, and of the table

abbrev pub is_past : Table → Bool
is_past t = elim t.aligns [ none ↦ false | some aligns ↦ leb (length aligns) t.column ]

abbrev pub is_within : Table → Bool
is_within t = elim t.aligns [ none ↦ false | some aligns ↦ not (leb (length aligns) t.column) ]

abbrev pub wait_facts : List (State → Bool)
wait_facts =
    (λ s. is_set s.waiting.rank)  -- 0
    ∷ (λ s. is_set s.waiting.setext)  -- 1
    ∷ (λ s. eqb (size s.waiting.setext) 0)  -- 2: no byte of a setext text is held
    ∷ (λ s. is_set s.waiting.seen)  -- 3
    ∷ (λ s. is_set s.waiting.fences)  -- 4
    ∷ (λ s. is_set s.waiting.marker)  -- 5
    ∷ (λ s. is_set s.waiting.first)  -- 6
    ∷ (λ s. is_set s.table.aligns)  -- 7
    ∷ (λ s. is_past s.table)  -- 8: the cell is past the columns
    ∷ (λ s. is_within s.table)  -- 9: it is not
    ∷ (λ s. not (is_set s.waiting.marker))  -- 10
    ∷ []

-- ---- of the newest medium

abbrev pub defined? : State → ℕ
defined? s = length s.kept.definitions

abbrev pub of_top : (Media → Bool) → List Media → Bool
of_top f [] = false
of_top f (m ∷ ms) = f m

-- of n definitions the one that it leads to is there
abbrev pub points_to : ℕ → Destination → Bool
points_to n no_destination = true
points_to n (own b) = true
points_to n (defined k) = ltb k n

abbrev pub media_facts : List (State → Bool)
media_facts =
    (λ s. of_top (λ m. true) s.media)  -- 0: there is one
    ∷ (λ s. of_top (λ m. eqb (size m.label) 0) s.media)  -- 1: no byte of it is held
    ∷ (λ s. of_top (λ m. is_set m.label) s.media)  -- 2
    ∷ (λ s. of_top (λ m. eqb (size (own_of m.destination)) 0) s.media)  -- 3
    ∷ (λ s. of_top (λ m. eqb (size m.title) 0) s.media)  -- 4
    ∷ (λ s. of_top (λ m. is_set m.label_id) s.media)  -- 5
    ∷ (λ s. of_top (λ m. is_set m.reference_id) s.media)  -- 6
    ∷ (λ s. of_top (λ m. points_to (defined? s) m.destination) s.media)  -- 7
    ∷ (λ s. newest_is_bare s.media)  -- 8: nothing is known of it
    ∷ (λ s. eqb (media_sizes s.media) 0)  -- 9: nothing is held at all
    ∷ []
