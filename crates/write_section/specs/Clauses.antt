-- What the functions promise: where a page stands in the buffer, the page that the machine makes of it stands there. Assumes nothing.
use Rattle.std.specs.Prelude.{◌≡◌, List, [], ℕ, ◌≤◌, length, get_or}
use Rattle.std.proofs.Math.Option.{some}
use Rattle.std.proofs.Math.ListN.{get_elem?}
use Rattle.regions.specs.Regions.{region_at}
use Rattle.regions.specs.Sizes.{region_size, kept_at, work_size}
use Rattle.machine.specs.declared.Fixed.{Fixed}
use Rattle.machine.specs.Outcome.{go}
use Rattle.machine.specs.State.{State, Call}
use Rattle.machine.specs.Section.{body_of, footnote_section}
use Rattle.state_kept.specs.declared.Kept.{Kept}
use Rattle.state_kept.specs.Kept.{column, Piece, tables, InTables}
use Rattle.state_buffers.specs.Stand.{Holds}
use Rattle.state_kept.specs.Sizes.{note_rows}
use Rattle.write_section.specs.Pages.{item_page, items_page}

-- ---- the section

pub record WritesSection (k : Kept) (fixed : Fixed) (text work footnotes calls out : List ℕ) (at : ℕ) (out' : List ℕ) (r : ℕ) : Type 0 where
  pub writes : (definitions labels : List ℕ) (s u : State) → s.captures ≡ [] → s.fixed ≡ fixed → length work ≡ work_size → k.end ≤ region_size
      → InTables k text (region_at kept_at work) (tables definitions footnotes calls labels) s → Holds out at s.page → footnote_section s ≡ go u
      → Holds out' r u.page × (length out' ≡ length out)

-- ---- the inner functions

-- a page is written as f makes it
pub record Writes (f : List ℕ → List ℕ) (out : List ℕ) (at : ℕ) (out' : List ℕ) (r : ℕ) : Type 0 where
  pub writes : (page : List ℕ) → Holds out at page → Holds out' r (f page)

-- what is kept of a state has room and stands in the tables
pub record There (k : Kept) (text work footnotes calls : List ℕ) (s : State) : Type 0 where
  pub definitions : List ℕ
  pub labels : List ℕ
  pub long : length work ≡ work_size
  pub fits : k.end ≤ region_size
  pub keeps : InTables k text (region_at kept_at work) (tables definitions footnotes calls labels) s

-- the item of the footnote in row j of the table
pub record WritesFound (fixed : Fixed) (label : List ℕ) (times : ℕ) (work footnotes : List ℕ) (j : ℕ) (out : List ℕ) (at : ℕ) (out' : List ℕ) (r : ℕ) : Type 0 where
  pub writes : {body : List ℕ} {end : ℕ} → length work ≡ work_size → end ≤ region_size → Piece (region_at kept_at work) end (get_or (column note_rows 2 footnotes) j 0) (get_or (column note_rows 3 footnotes) j 0) body
      → Writes (item_page fixed label times body) out at out' r

-- the item of the ith call
pub record WritesCall (k : Kept) (fixed : Fixed) (text work footnotes calls : List ℕ) (i : ℕ) (out : List ℕ) (at : ℕ) (out' : List ℕ) (r : ℕ) : Type 0 where
  pub writes : {s : State} {c : Call} {body : List ℕ} → There k text work footnotes calls s → get_elem? s.kept.calls i ≡ some c → body_of c.label s.kept.footnotes ≡ go body
      → Writes (item_page fixed c.label c.times body) out at out' r

-- the items of all calls
pub record WritesItems (k : Kept) (fixed : Fixed) (text work footnotes calls out : List ℕ) (at : ℕ) (out' : List ℕ) (r : ℕ) : Type 0 where
  pub writes : {s : State} (page last : List ℕ) → There k text work footnotes calls s → items_page fixed s.kept.footnotes s.kept.calls page ≡ go last → Holds out at page → Holds out' r last
