-- What the inner functions ask for and answer: no part of a promise. Assumes nothing.
use Rattle.std.specs.Prelude.{◌≡◌, Bool, ◌&&◌, List, ℕ, ◌+◌, ◌≤◌, leb, length, take, drop}
use Rattle.lent.specs.Fill.{Filled}
use Rattle.regions.specs.Sizes.{region_size, held_at}

-- n bytes from a place on lie within the work bytes and behind the captures
unfoldable pub is_part : (len from n : ℕ) → Bool
is_part len from n = leb held_at from && leb (from + n) len

-- and are so many at most
pub record Part (w : List ℕ) (from n most : ℕ) : Type 0 where
  pub low : held_at ≤ from
  pub high : from + n ≤ length w
  pub few : n ≤ most

-- bytes are appended to the captures, and what stands behind those stays
pub record Appended (w : List ℕ) (at : ℕ) (s w' : List ℕ) (r : ℕ) : Type 0 where
  pub filled : Filled (take region_size w) at s (take region_size w') r
  pub behind : drop region_size w' ≡ drop region_size w
