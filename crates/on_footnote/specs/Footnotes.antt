-- What a handler of footnotes does with the tables that it is lent. Assumes nothing.
use Rattle.std.specs.Prelude.{◌≡◌, List, ℕ}
use Rattle.event.specs.declared.Event.{Event}
use Rattle.machine.specs.Turn.{Turn}
use Rattle.machine.specs.Command.{Command}
use Rattle.state_kept.specs.Kept.{tables}
use Rattle.state_whole.specs.declared.Whole.{Whole}
use Rattle.state_whole.specs.Whole.{World, Handles, with_work, with_out, with_tables}

-- ---- what is known of the turn

-- this event is handled
pub record IsEvent (e : Event) (t : Turn) : Type 0 where
  pub event-is : t.event ≡ e

-- the text is the one in which labels have their places
pub record Reads (text : List ℕ) (t : Turn) : Type 0 where
  pub text-is : t.text ≡ text

-- ---- one table changed

abbrev pub with_labels : List ℕ → World → World
with_labels x w = let t = w.tables in with_tables (tables t.definitions t.footnotes t.calls x) w

abbrev pub with_footnotes : List ℕ → World → World
with_footnotes x w = let t = w.tables in with_tables (tables t.definitions x t.calls t.labels) w

abbrev pub with_calls : List ℕ → World → World
with_calls x w = let t = w.tables in with_tables (tables t.definitions t.footnotes x t.labels) w

-- ---- handlers by what they are lent

-- the labels of open footnotes
pub record OnLabels (Need : Whole → Type 0) (View : Turn → Type 0) (d : Command) (b : Whole) (labels : List ℕ) (r : Whole) (labels' : List ℕ) : Type 0 where
  pub on-labels : (text : List ℕ) (w : World) → w.tables.labels ≡ labels → Handles text Need View d b w r (with_labels labels' w)

-- the work bytes and the footnotes, and to read the text, the starts of captures and the labels of open footnotes
pub record OnFootnotes (Need : Whole → Type 0) (d : Command) (b : Whole) (text work starts footnotes labels : List ℕ) (r : Whole) (work' footnotes' : List ℕ) : Type 0 where
  pub on-footnotes : (w : World) → w.work ≡ work → w.starts ≡ starts → w.tables.footnotes ≡ footnotes → w.tables.labels ≡ labels
      → Handles text Need (Reads text) d b w r (with_footnotes footnotes' (with_work work' w))

-- the work bytes, the page and the calls, and to read the text
pub record OnCalls (Need : Whole → Type 0) (d : Command) (b : Whole) (text work out calls : List ℕ) (r : Whole) (work' out' calls' : List ℕ) : Type 0 where
  pub on-calls : (w : World) → w.work ≡ work → w.out ≡ out → w.tables.calls ≡ calls → Handles text Need (Reads text) d b w r (with_calls calls' (with_out out' (with_work work' w)))
