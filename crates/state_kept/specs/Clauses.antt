-- What the functions promise: where the tables stand for a state of the machine, they stand for the next one. Assumes nothing.
use Rattle.std.specs.Prelude.{◌≡◌, List, ◌∷◌, ℕ, ◌≤◌, ◌<◌, length, take}
use Rattle.regions.specs.Regions.{region_at}
use Rattle.regions.specs.Sizes.{kept_at, work_size}
use Rattle.normalize_identifier.specs.Search.{Found, first_same}
use Rattle.machine.specs.State.{State, Span, Definition}
use Rattle.machine.specs.Set.{set_labels, set_calls, add_footnote, add_definition}
use Rattle.machine.specs.Media.{definition_labels}
use Rattle.machine.specs.Footnote.{call_index, count_at, times_at}
use Rattle.machine.specs.Section.{footnote_labels}
use Rattle.machine.specs.Totals.{kept, most_total}
use Rattle.state_kept.specs.declared.Kept.{Kept}
use Rattle.state_kept.specs.Kept.{LabelIs, Piece, Optional, or_empty, tables, InTables}
use Rattle.state_kept.specs.Sizes.{definition_rows, note_rows}

-- ---- labels of open footnotes

pub record OpensLabel (k : Kept) (from to : ℕ) (labels : List ℕ) (r : Kept) (labels' : List ℕ) : Type 0 where
  pub opens : {text region d f c : List ℕ} {s : State} → InTables k text region (tables d f c labels) s → length s.labels < note_rows
      → InTables r text region (tables d f c labels') (set_labels (record { from = from; to = to } ∷ s.labels) s)

-- ---- searches

pub record FindsCall (k : Kept) (text : List ℕ) (from to : ℕ) (calls : List ℕ) (r : ℕ) : Type 0 where
  pub finds : {region d f l label : List ℕ} {s : State} → InTables k text region (tables d f calls l) s → LabelIs text from to label → r ≡ call_index label s.kept.calls

pub record FindsDefinition (k : Kept) (text : List ℕ) (from to : ℕ) (definitions : List ℕ) (r : Found) : Type 0 where
  pub finds : {region f c l label : List ℕ} {s : State} → InTables k text region (tables definitions f c l) s → kept s ≤ most_total → LabelIs text from to label
      → r ≡ first_same (definition_labels s.kept.definitions) label

pub record FindsFootnote (k : Kept) (text : List ℕ) (from to : ℕ) (footnotes : List ℕ) (r : Found) : Type 0 where
  pub finds : {region d c l label : List ℕ} {s : State} → InTables k text region (tables d footnotes c l) s → kept s ≤ most_total → LabelIs text from to label
      → r ≡ first_same (footnote_labels s.kept.footnotes) label

-- ---- calls

pub record CountsCall (k : Kept) (index : ℕ) (text : List ℕ) (from to : ℕ) (calls : List ℕ) (r : Kept) (calls' : List ℕ) : Type 0 where
  pub counts : {region d f l label : List ℕ} {s : State} → InTables k text region (tables d f calls l) s → LabelIs text from to label
      → index ≤ length s.kept.calls → index < note_rows → times_at index s.kept.calls < 0x1_0000_0000
      → InTables r text region (tables d f calls' l) (set_calls (count_at index label s.kept.calls) s)

pub record TellsTimes (calls : List ℕ) (index r : ℕ) : Type 0 where
  pub tells : {k : Kept} {text region d f l : List ℕ} {s : State} → InTables k text region (tables d f calls l) s → index < length s.kept.calls → r ≡ times_at index s.kept.calls

-- ---- what is kept in bytes

-- the two regions before the kept bytes stay
pub record KeptIn (r : Kept) (text work work' definitions footnotes calls labels : List ℕ) (s : State) : Type 0 where
  pub keeps : InTables r text (region_at kept_at work') (tables definitions footnotes calls labels) s
  pub before : take kept_at work' ≡ take kept_at work

pub record KeepsFootnote (k : Kept) (text : List ℕ) (from n : ℕ) (work footnotes labels : List ℕ) (r : Kept) (work' footnotes' : List ℕ) : Type 0 where
  pub keeps : {d c body label : List ℕ} {p : Span} {ps : List Span} {s : State} → work_size ≤ length work → InTables k text (region_at kept_at work) (tables d footnotes c labels) s
      → s.labels ≡ p ∷ ps → LabelIs text p.from p.to label → Piece work kept_at from n body → length s.kept.footnotes < note_rows
      → KeptIn r text work work' d footnotes' c labels (add_footnote (record { label = label; body = body }) (set_labels ps s))

pub record KeepsDefinition (k : Kept) (text : List ℕ) (from to place n title_place title : ℕ) (work definitions : List ℕ) (r : Kept) (work' definitions' : List ℕ) : Type 0 where
  pub keeps : {f c l : List ℕ} (d : Definition) {s : State} → work_size ≤ length work → InTables k text (region_at kept_at work) (tables definitions f c l) s
      → LabelIs text from to d.label → Piece work kept_at place n (or_empty d.destination) → Optional work kept_at title_place title d.title → length s.kept.definitions < definition_rows
      → KeptIn r text work work' definitions' f c l (add_definition d s)
