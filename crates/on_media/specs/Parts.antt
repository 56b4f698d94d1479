-- What the parts of a link or an image do where they are written. Assumes nothing.
use Rattle.std.specs.Prelude.{◌≡◌, List, ℕ}
use Rattle.machine.specs.declared.Options.{Options}
use Rattle.machine.specs.Turn.{Turn}
use Rattle.machine.specs.Command.{Command}
use Rattle.state_whole.specs.declared.Whole.{Whole}
use Rattle.state_whole.specs.Whole.{World, Mirrors, Handles, with_work, with_out}
use Rattle.machine.specs.State.{State}
use Rattle.machine.specs.Buffers.{push}

-- a turn under these options
pub record Chooses (o : Options) (t : Turn) : Type 0 where
  pub options-is : t.options ≡ o

-- the work bytes and the page, and the definitions to read
pub record OnShown (Need : Whole → Type 0) (View : Turn → Type 0) (d : Command) (b : Whole) (work out definitions : List ℕ) (r : Whole) (work' out' : List ℕ) : Type 0 where
  pub on-shown : (text : List ℕ) (w : World) → w.work ≡ work → w.out ≡ out → w.tables.definitions ≡ definitions → Handles text Need View d b w r (with_out out' (with_work work' w))

-- a text is written
pub record WritesText (t : List ℕ) (b : Whole) (work out : List ℕ) (r : Whole) (work' out' : List ℕ) : Type 0 where
  pub writes : (text : List ℕ) (w : World) (s : State) → w.work ≡ work → w.out ≡ out → Mirrors text b w s → Mirrors text r (with_out out' (with_work work' w)) (push t s)
