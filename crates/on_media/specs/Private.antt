-- What the inner functions do: no part of a promise. Assumes nothing.
use Rattle.std.specs.Prelude.{◌≡◌, List, ◌∷◌, ℕ, ◌+◌, ◌≤◌, take, drop}
use Rattle.std.proofs.Math.Option.{some}
use Rattle.std.proofs.Math.ListN.{get_elem?}
use Rattle.regions.specs.Sizes.{region_size, held_at, kept_at}
use Rattle.machine.specs.State as State
use Rattle.machine.specs.State.{State}
use Rattle.machine.specs.Buffers.{push}
use Rattle.machine.specs.Media.{or_none, title_text}
use Rattle.regions.specs.Regions.{region_at}
use Rattle.state_whole.specs.declared.Whole.{Whole}
use Rattle.state_whole.specs.Whole.{World, Mirrors, Held, with_work, with_out}
use Rattle.on_definition.specs.Definitions.{Known}

-- a piece of a region, as f makes it
pub record WritesPiece (f : List ℕ → List ℕ) (base place n : ℕ) (b : Whole) (work out : List ℕ) (r : Whole) (work' out' : List ℕ) : Type 0 where
  pub writes : (text c : List ℕ) (w : World) (s : State) → w.work ≡ work → w.out ≡ out → held_at ≤ base → base ≤ kept_at → place + n ≤ region_size → take n (drop place (region_at base w.work)) ≡ c → Mirrors text b w s
      → Mirrors text r (with_out out' (with_work work' w)) (push (f c) s)

-- the newest medium's own title, where it has one
pub record ShowsOwnTitle (b : Whole) (work out : List ℕ) (r : Whole) (work' out' : List ℕ) : Type 0 where
  pub shows : (text : List ℕ) (w : World) (s : State) (m : State.Media) (ms : List State.Media) → w.work ≡ work → w.out ≡ out → Held b → Mirrors text b w s → s.media ≡ m ∷ ms
      → Mirrors text r (with_out out' (with_work work' w)) (push (or_none m.title title_text) s)

-- that of the definition at an index
pub record ShowsKeptTitle (k : ℕ) (b : Whole) (work out definitions : List ℕ) (r : Whole) (work' out' : List ℕ) : Type 0 where
  pub shows : (text : List ℕ) (w : World) (s : State) (d : State.Definition) → w.work ≡ work → w.out ≡ out → w.tables.definitions ≡ definitions → Known b → Mirrors text b w s → get_elem? s.kept.definitions k ≡ some d
      → Mirrors text r (with_out out' (with_work work' w)) (push (or_none d.title title_text) s)
