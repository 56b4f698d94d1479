-- How what the machine keeps to the end stands in the code's tables and in the third region of the work bytes. Assumes nothing.
use Rattle.std.specs.Prelude.{◌≡◌, List, [], ◌∷◌, ℕ, zero, suc, min, ◌+◌, ◌-◌, ◌*◌, ◌≤◌, length, take, drop, get_or}
use Rattle.std.proofs.Math.Option.{Option, none, some}
use Rattle.std.proofs.Math.ListN.{get_elem?}
use Rattle.regions.specs.Sizes.{no_room}
use Rattle.normalize_identifier.specs.Search as Search
use Rattle.normalize_identifier.specs.Search.{labels_of}
use Rattle.signature.specs.Signed.{Signs}
use Rattle.machine.specs.State.{State, Span, Definition, Footnote, Call}
use Rattle.machine.specs.Media.{definition_labels}
use Rattle.machine.specs.Footnote.{call_labels}
use Rattle.machine.specs.Section.{footnote_labels}
use Rattle.machine.specs.Totals.{kept, most_total}
use Rattle.state_kept.specs.declared.Kept.{Kept}
use Rattle.state_kept.specs.Sizes.{definition_rows, note_rows, definition_words, footnote_words, call_words, label_words}

-- before the first event
abbrev pub nothing_kept : Kept
nothing_kept = record { end = 0; definitions = 0; footnotes = 0; calls = 0; labels = 0 }

-- ---- tables of words: columns one behind the other, n rows each

abbrev pub column : (n k : ℕ) → List ℕ → List ℕ
column n k table = take n (drop (k * n) table)

-- the first count rows of two columns are the places of labels in the text
pub record Labels (text from to : List ℕ) (count : ℕ) (labels : List (List ℕ)) : Type 0 where
  pub places : Search.Table text from to count
  pub are : labels_of text from to count ≡ labels

-- a label is the part of the text from one place to another
pub record LabelIs (text : List ℕ) (from to : ℕ) (label : List ℕ) : Type 0 where
  pub ordered : from ≤ to
  pub inside : to ≤ length text
  pub is : take (to - from) (drop from text) ≡ label

-- ---- pieces of a region

-- n bytes from a place on, below an end
pub record Piece (region : List ℕ) (end place n : ℕ) (b : List ℕ) : Type 0 where
  pub long : n ≡ length b
  pub below : place + n ≤ end
  pub bytes : take n (drop place region) ≡ b

abbrev pub or_empty : Option (List ℕ) → List ℕ
or_empty none = []
or_empty (some b) = b

-- a piece that may be missing: the word is 0, or one more than its length
abbrev pub Optional : (region : List ℕ) → (end place word : ℕ) → Option (List ℕ) → Type 0
Optional region end place zero none = Unit
Optional region end place zero (some b) = ⊥
Optional region end place (suc n) none = ⊥
Optional region end place (suc n) (some b) = Piece region end place n b

-- ---- definitions: label from, label to, destination's place, its length, one more than the title's length, the label's signature; the title stands behind the destination

pub record DefinitionIs (table region : List ℕ) (end k : ℕ) (d : Definition) : Type 0 where
  pub destination : Piece region end (get_or (column definition_rows 2 table) k 0) (get_or (column definition_rows 3 table) k 0) (or_empty d.destination)
  pub title : Optional region end (get_or (column definition_rows 2 table) k 0 + get_or (column definition_rows 3 table) k 0) (get_or (column definition_rows 4 table) k 0) d.title

pub record Definitions (text table region : List ℕ) (end count : ℕ) (ds : List Definition) : Type 0 where
  pub rows : count ≡ length ds
  pub labels : Labels text (column definition_rows 0 table) (column definition_rows 1 table) count (definition_labels ds)
  pub signed : Signs (column definition_rows 5 table) (column definition_rows 6 table) (definition_labels ds)
  pub each : (k : ℕ) (d : Definition) → get_elem? ds k ≡ some d → DefinitionIs table region end k d

-- ---- footnotes: label from, label to, body's place, its length, the label's signature

pub record Footnotes (text table region : List ℕ) (end count : ℕ) (fs : List Footnote) : Type 0 where
  pub rows : count ≡ length fs
  pub labels : Labels text (column note_rows 0 table) (column note_rows 1 table) count (footnote_labels fs)
  pub signed : Signs (column note_rows 4 table) (column note_rows 5 table) (footnote_labels fs)
  pub each : (k : ℕ) (f : Footnote) → get_elem? fs k ≡ some f → Piece region end (get_or (column note_rows 2 table) k 0) (get_or (column note_rows 3 table) k 0) f.body

-- ---- calls: label from, label to, how often, the label's signature

pub record Calls (text table : List ℕ) (count : ℕ) (cs : List Call) : Type 0 where
  pub rows : count ≡ length cs
  pub labels : Labels text (column note_rows 0 table) (column note_rows 1 table) count (call_labels cs)
  pub signed : Signs (column note_rows 3 table) (column note_rows 4 table) (call_labels cs)
  pub each : (k : ℕ) (c : Call) → get_elem? cs k ≡ some c → get_or (column note_rows 2 table) k 0 ≡ c.times

-- ---- labels of open footnotes, newest first: from, to

abbrev pub OpenLabels : (table : List ℕ) → List Span → Type 0
OpenLabels table [] = Unit
OpenLabels table (p ∷ ps) = (get_or (column note_rows 0 table) (length ps) 0 ≡ p.from) × (get_or (column note_rows 1 table) (length ps) 0 ≡ p.to) × OpenLabels table ps

-- within the table
pub record Opened (table : List ℕ) (count : ℕ) (ps : List Span) : Type 0 where
  pub rows : count ≡ length ps
  pub few : count ≤ note_rows
  pub each : OpenLabels table ps

-- ---- all of it

pub record Tables : Type 0 where
  pub definitions : List ℕ
  pub footnotes : List ℕ
  pub calls : List ℕ
  pub labels : List ℕ

abbrev pub tables : (definitions footnotes calls labels : List ℕ) → Tables
tables d f c l = record { definitions = d; footnotes = f; calls = c; labels = l }

pub record Long (t : Tables) : Type 0 where
  pub definitions : length t.definitions ≡ definition_words
  pub footnotes : length t.footnotes ≡ footnote_words
  pub calls : length t.calls ≡ call_words
  pub labels : length t.labels ≡ label_words

-- Where the kept bytes have no room, the end says so, and no more is known.
pub record InTables (k : Kept) (text region : List ℕ) (t : Tables) (s : State) : Type 0 where
  pub long : Long t
  pub end : k.end ≡ min (kept s) no_room
  pub definitions : kept s ≤ most_total → Definitions text t.definitions region k.end k.definitions s.kept.definitions
  pub footnotes : kept s ≤ most_total → Footnotes text t.footnotes region k.end k.footnotes s.kept.footnotes
  pub calls : Calls text t.calls k.calls s.kept.calls
  pub labels : Opened t.labels k.labels s.labels
