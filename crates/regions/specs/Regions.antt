-- The three regions of the work bytes, and what it means to carry bytes from one to another. Assumes nothing.
use Rattle.std.specs.Prelude.{◌≡◌, List, ◌⊎◌, ℕ, ◌+◌, ◌≤◌, length, take, drop}
use Rattle.lent.specs.Fill.{Filled}
use Rattle.regions.specs.Sizes.{region_size, held_at, kept_at}

-- the region that starts at a place
abbrev pub region_at : ℕ → List ℕ → List ℕ
region_at to w = take region_size (drop to w)

-- What stands outside the region stays, and in it the bytes are appended: where the two lie apart, and within the work bytes.
pub record Carried (w : List ℕ) (from n to at : ℕ) (w' : List ℕ) (r : ℕ) : Type 0 where
  pub filled : Filled (region_at to w) at (take n (drop from w)) (region_at to w') r
  pub before : take to w' ≡ take to w
  pub behind : drop (to + region_size) w' ≡ drop (to + region_size) w

pub record Carries (w : List ℕ) (from n to at : ℕ) (w' : List ℕ) (r : ℕ) : Type 0 where
  pub carries : from + n ≤ length w → to + region_size ≤ length w → to ≤ kept_at → (from + n ≤ to) ⊎ (to + held_at ≤ from) → Carried w from n to at w' r
