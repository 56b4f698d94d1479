-- What handlers do that seek or keep definitions: the turn's text is the one whose labels are kept. Assumes nothing.
use Rattle.std.specs.Prelude.{◌≡◌, List, ℕ, ◌≤◌}
use Rattle.regions.specs.Sizes.{region_size}
use Rattle.machine.specs.Turn.{Turn}
use Rattle.machine.specs.Command.{Command}
use Rattle.state_kept.specs.Kept.{tables}
use Rattle.state_whole.specs.declared.Whole.{Whole}
use Rattle.state_whole.specs.Whole.{World, Held, Handles, with_work, with_tables}

-- what is held and what is kept have room
pub record Known (b : Whole) : Type 0 where
  pub held : Held b
  pub kept : b.kept.end ≤ region_size

-- a turn of this text
pub record Reads (text : List ℕ) (t : Turn) : Type 0 where
  pub text-is : t.text ≡ text

-- the text and the definitions, to read
pub record FromDefinitions (Need : Whole → Type 0) (d : Command) (b : Whole) (text definitions : List ℕ) (r : Whole) : Type 0 where
  pub from-definitions : (w : World) → w.tables.definitions ≡ definitions → Handles text Need (Reads text) d b w r w

abbrev pub with_definitions : List ℕ → World → World
with_definitions x w = with_tables (tables x w.tables.footnotes w.tables.calls w.tables.labels) w

-- the work bytes and the definitions, and the text and the starts to read
pub record OnDefinitions (Need : Whole → Type 0) (d : Command) (b : Whole) (text work starts definitions : List ℕ) (r : Whole) (work' definitions' : List ℕ) : Type 0 where
  pub on-definitions : (w : World) → w.work ≡ work → w.starts ≡ starts → w.tables.definitions ≡ definitions → Handles text Need (Reads text) d b w r (with_definitions definitions' (with_work work' w))
