-- What an enter and an exit do to the open elements, held in two arrays: no part of a promise. Assumes nothing.
use Rattle.std.specs.Prelude.{◌≡◌, Bool, true, false, ◌⊎◌, List, ℕ, ◌+◌, ◌-◌, get_or, set, Some, None}
use Rattle.check_nesting.specs.declared.stack.Nesting.{Nesting}
use Rattle.check_nesting.specs.Pass.{turn, leave, Open}
use Rattle.check_nesting.specs.Tables.{state, Enters, Leaves}

-- the newest of d open elements: their names, and the states behind them
abbrev pub newest_of : (names behind : List ℕ) → ℕ → Open
newest_of names behind d = record { name = get_or names (d - 1) 0; behind = state (get_or behind (d - 1) 0) }

-- the enter of an n: refused, which leaves all as it is, or entered
abbrev pub Opens : Nesting → (n : ℕ) → Bool → Nesting → Type 0
Opens v n false w = (w ≡ v) × ((v.depth ≡ 64) ⊎ Enters (turn (state v.here) n) None)
Opens v n true w =
    (y : ℕ) × (v.depth ≡ 64 → ⊥) × (w.depth ≡ v.depth + 1) × (w.names ≡ set v.names v.depth n) × (w.behind ≡ set v.behind v.depth y) × Enters (turn (state v.here) n) (Some (record { inside = w.here; behind = y }))

-- the exit of one
abbrev pub Closes : Nesting → (n : ℕ) → Bool → Nesting → Type 0
Closes v n false w = (w ≡ v) × ((v.depth ≡ 0) ⊎ (v.depth ≡ 0 → ⊥) × Leaves (leave (state v.here) (newest_of v.names v.behind v.depth) n) None)
Closes v n true w =
    (v.depth ≡ 0 → ⊥) × (w.depth ≡ v.depth - 1) × (w.names ≡ v.names) × (w.behind ≡ v.behind) × Leaves (leave (state v.here) (newest_of v.names v.behind v.depth) n) (Some w.here)

-- either
abbrev pub Advances : (enters : Bool) → Nesting → (n : ℕ) → Bool → Nesting → Type 0
Advances true v n r w = Opens v n r w
Advances false v n r w = Closes v n r w
