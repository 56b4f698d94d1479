-- How the machine's state stands in the whole of the code's, and what a handler of media or footnotes does. Assumes nothing.
use Rattle.std.specs.Prelude.{◌≡◌, List, ◌++◌, ℕ, ◌≤◌, length, take, drop}
use Rattle.regions.specs.Sizes.{region_size, held_at, kept_at, work_size}
use Rattle.machine.specs.State.{State}
use Rattle.machine.specs.Outcome.{go}
use Rattle.machine.specs.Turn.{Turn}
use Rattle.machine.specs.Command.{Command}
use Rattle.machine_bounded.specs.Within.{within}
use Rattle.regions.specs.Regions.{region_at}
use Rattle.state_context.specs.declared.Context.{Context}
use Rattle.state_context.specs.Rel.{Rel}
use Rattle.state_media.specs.declared.Links.{Links}
use Rattle.state_media.specs.Links.{Linked}
use Rattle.state_kept.specs.declared.Kept.{Kept}
use Rattle.state_kept.specs.Kept.{Tables, InTables}
use Rattle.state_whole.specs.declared.Whole.{Whole}

-- what is lent, but for the text: it stays
pub record World : Type 0 where
  pub work : List ℕ
  pub out : List ℕ
  pub starts : List ℕ
  pub tables : Tables

pub record Mirrors (text : List ℕ) (b : Whole) (w : World) (s : State) : Type 0 where
  pub long : length w.work ≡ work_size
  pub places : length w.starts ≡ 64
  pub context : Rel b.context (take region_size w.work) w.out w.starts s
  pub links : Linked b.links (region_at held_at w.work) s
  pub kept : InTables b.kept text (region_at kept_at w.work) w.tables s

-- ---- what is asked for before: nothing, or that there is room

abbrev pub Always : Whole → Type 0
Always b = Unit

abbrev pub Held : Whole → Type 0
Held b = b.links.end ≤ region_size

pub record Roomy (b : Whole) : Type 0 where
  pub captures : b.context.buffers.end ≤ region_size
  pub held : Held b

-- where the machine goes on with a command, the code goes with it
pub record Handles (text : List ℕ) (Need : Whole → Type 0) (View : Turn → Type 0) (d : Command) (b : Whole) (w : World) (r : Whole) (w' : World) : Type 0 where
  pub handles : (t : Turn) (s u : State) → View t → Need b → Mirrors text b w s → within d t s ≡ go u → Mirrors text r w' u

-- ---- one part changed

abbrev pub with_context : Context → Whole → Whole
with_context x b = record { context = x; links = b.links; kept = b.kept }

abbrev pub with_links : Links → Whole → Whole
with_links x b = record { context = b.context; links = x; kept = b.kept }

abbrev pub with_kept : Kept → Whole → Whole
with_kept x b = record { context = b.context; links = b.links; kept = x }

abbrev pub with_work : List ℕ → World → World
with_work x w = record { work = x; out = w.out; starts = w.starts; tables = w.tables }

abbrev pub with_out : List ℕ → World → World
with_out x w = record { work = w.work; out = x; starts = w.starts; tables = w.tables }

abbrev pub with_starts : List ℕ → World → World
with_starts x w = record { work = w.work; out = w.out; starts = x; tables = w.tables }

abbrev pub with_tables : Tables → World → World
with_tables x w = record { work = w.work; out = w.out; starts = w.starts; tables = x }

-- the captures, the first of the three regions, and the page
abbrev pub with_bytes : (captures out : List ℕ) → World → World
with_bytes captures out w = record { work = captures ++ drop region_size w.work; out = out; starts = w.starts; tables = w.tables }

-- ---- handlers by what they are lent

pub record Unlent (Need : Whole → Type 0) (View : Turn → Type 0) (d : Command) (b r : Whole) : Type 0 where
  pub unlent : (text : List ℕ) (w : World) → Handles text Need View d b w r w

-- the starts of captures, to read or to change
pub record FromStarts (Need : Whole → Type 0) (View : Turn → Type 0) (d : Command) (b : Whole) (starts : List ℕ) (r : Whole) : Type 0 where
  pub from-starts : (text : List ℕ) (w : World) → w.starts ≡ starts → Handles text Need View d b w r w

pub record OnStarts (Need : Whole → Type 0) (View : Turn → Type 0) (d : Command) (b : Whole) (starts : List ℕ) (r : Whole) (starts' : List ℕ) : Type 0 where
  pub on-starts : (text : List ℕ) (w : World) → w.starts ≡ starts → Handles text Need View d b w r (with_starts starts' w)

-- the work bytes, and the starts to read
pub record OnWork (Need : Whole → Type 0) (View : Turn → Type 0) (d : Command) (b : Whole) (work starts : List ℕ) (r : Whole) (work' : List ℕ) : Type 0 where
  pub on-work : (text : List ℕ) (w : World) → w.work ≡ work → w.starts ≡ starts → Handles text Need View d b w r (with_work work' w)

-- the work bytes and the page
pub record OnPage (Need : Whole → Type 0) (View : Turn → Type 0) (d : Command) (b : Whole) (work out : List ℕ) (r : Whole) (work' out' : List ℕ) : Type 0 where
  pub on-page : (text : List ℕ) (w : World) → w.work ≡ work → w.out ≡ out → Handles text Need View d b w r (with_out out' (with_work work' w))
