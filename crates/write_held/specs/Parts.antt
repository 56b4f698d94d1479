-- Bytes that are held or kept go to the newest buffer where the machine pushes them, and stay. Assumes nothing.
use Rattle.std.specs.Prelude.{◌≡◌, Bool, List, ℕ, ◌+◌, ◌≤◌, length, take, drop}
use Rattle.regions.specs.Sizes.{region_size, held_at, work_size}
use Rattle.machine.specs.declared.Options.{Options}
use Rattle.machine.specs.Buffers.{push}
use Rattle.machine.specs.Turn.{url_of}
use Rattle.state_buffers.specs.declared.Buffers.{Buffers}
use Rattle.state_buffers.specs.Stand.{Keeps}

-- as they are
pub record PushesPart (from n : ℕ) (b : Buffers) (work out : List ℕ) (r : Buffers) (work' out' : List ℕ) : Type 0 where
  pub pushes : length work ≡ work_size → held_at ≤ from → from + n ≤ work_size
      → Keeps (push (take n (drop from work))) b (take region_size work) out r (take region_size work') out' × (drop region_size work' ≡ drop region_size work)

-- as a URL: what is held or kept of one lies within a region
pub record PushesUrlPart (o : Options) (image : Bool) (from n : ℕ) (b : Buffers) (work out : List ℕ) (r : Buffers) (work' out' : List ℕ) : Type 0 where
  pub pushes : length work ≡ work_size → held_at ≤ from → from + n ≤ work_size → n ≤ region_size
      → Keeps (push (url_of o image (take n (drop from work)))) b (take region_size work) out r (take region_size work') out' × (drop region_size work' ≡ drop region_size work)
