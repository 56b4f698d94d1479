-- What it means to append bytes to a lent buffer. Assumes nothing.
use Rattle.std.specs.Prelude.{◌≡◌, List, ◌++◌, ℕ, ◌+◌, min, max, length, take, drop, replicate}

-- the buffer d with the bytes s in its places from at on: as many of them as fit
unfoldable pub fill : List ℕ → ℕ → List ℕ → List ℕ
fill d at s = take (length d) (take at d ++ s ++ drop (at + length s) d)

-- the place behind s: at + length s, but not more than one past d's end, where it says that s had no room. A place further out stays
abbrev pub past : List ℕ → ℕ → List ℕ → ℕ
past d at s = max at (min (at + length s) (length d + 1))

-- s was appended at the place at of d: e is what the buffer holds then, and r the place behind
pub record Filled (d : List ℕ) (at : ℕ) (s e : List ℕ) (r : ℕ) : Type 0 where
  pub bytes : e ≡ fill d at s
  pub place : r ≡ past d at s

abbrev pub zeros : ℕ → List ℕ
zeros n = replicate n 0
