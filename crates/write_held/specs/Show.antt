-- What is written goes to the newest buffer as the machine pushes it, and what stands behind the captures stays. Assumes nothing.
use Rattle.std.specs.Prelude.{◌≡◌, List, ℕ, ◌+◌, ◌≤◌, length, take, drop}
use Rattle.regions.specs.Sizes.{region_size, held_at, kept_at, work_size}
use Rattle.machine.specs.Buffers.{push}
use Rattle.regions.specs.Regions.{region_at}
use Rattle.state_buffers.specs.declared.Buffers.{Buffers}
use Rattle.state_buffers.specs.Stand.{Keeps}

abbrev pub as_is : List ℕ → List ℕ
as_is c = c

pub record Showing (t : List ℕ) (b : Buffers) (work out : List ℕ) (r : Buffers) (work' out' : List ℕ) : Type 0 where
  pub keeps : Keeps (push t) b (take region_size work) out r (take region_size work') out'
  pub behind : drop region_size work' ≡ drop region_size work

pub record ShowsText (t : List ℕ) (b : Buffers) (work out : List ℕ) (r : Buffers) (work' out' : List ℕ) : Type 0 where
  pub shows : length work ≡ work_size → Showing t b work out r work' out'

-- a piece of a region, as f makes it
pub record ShowsPiece (f : List ℕ → List ℕ) (base place n : ℕ) (b : Buffers) (work out : List ℕ) (r : Buffers) (work' out' : List ℕ) : Type 0 where
  pub shows : (c : List ℕ) → length work ≡ work_size → held_at ≤ base → base ≤ kept_at → place + n ≤ region_size → take n (drop place (region_at base work)) ≡ c → Showing (f c) b work out r work' out'
