-- What the handler of a link's or an image's end is told of a turn, and what it does. Assumes nothing.
use Rattle.std.specs.Prelude.{◌≡◌, List, ℕ}
use Rattle.machine.specs.declared.Options.{Options}
use Rattle.machine.specs.Turn.{Turn}
use Rattle.machine.specs.Command.{Command}
use Rattle.state_whole.specs.declared.Whole.{Whole}
use Rattle.state_whole.specs.Whole.{World, Handles, with_work, with_out}
use Rattle.on_definition.specs.Definitions.{Reads}
use Rattle.on_media.specs.Parts.{Chooses}

-- a turn of this text under these options
pub record ReadsBy (text : List ℕ) (o : Options) (t : Turn) : Type 0 where
  pub reads : Reads text t
  pub chooses : Chooses o t

-- the work bytes and the page, and the text and the definitions to read
pub record OnMedia (Need : Whole → Type 0) (View : Turn → Type 0) (d : Command) (b : Whole) (text work out definitions : List ℕ) (r : Whole) (work' out' : List ℕ) : Type 0 where
  pub on-media : (w : World) → w.work ≡ work → w.out ≡ out → w.tables.definitions ≡ definitions → Handles text Need View d b w r (with_out out' (with_work work' w))
