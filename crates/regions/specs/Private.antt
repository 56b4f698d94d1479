-- What the inner functions ask for: no part of a promise. Assumes nothing.
use Rattle.std.specs.Prelude.{Bool, ◌&&◌, ◌||◌, List, ◌⊎◌, ℕ, ◌+◌, ◌≤◌, leb, length}
use Rattle.regions.specs.Sizes.{region_size}

pub record Apart (w : List ℕ) (from n at : ℕ) : Type 0 where
  pub source : from + n ≤ length w
  pub target : at + n ≤ length w
  pub apart : (from + n ≤ at) ⊎ (at + n ≤ from)

unfoldable pub is_apart : (len from n to : ℕ) → Bool
is_apart len from n to = leb (from + n) len && leb (to + region_size) len && (leb (from + n) to || leb (to + region_size) from)
