-- One field set, the others left: antt has no record update. Assumes nothing.
use Rattle.std.specs.Prelude.{Bool, List, [], ◌∷◌, ◌++◌, ℕ}
use Rattle.std.proofs.Math.Option.{Option, some}
use Rattle.character_reference.specs.declared.Marker.{Marker}
use Rattle.machine.specs.declared.Flags.{Flags}
use Rattle.machine.specs.State.{State, Span, Destination, Media, Definition, Footnote, Call, Waiting, Table, Kept}

-- ---- of the state

abbrev pub set_page : List ℕ → State → State
set_page x s = record { page = x; captures = s.captures; media = s.media; tight = s.tight; labels = s.labels; flags = s.flags; waiting = s.waiting; table = s.table; kept = s.kept; fixed = s.fixed }

abbrev pub set_captures : List (List ℕ) → State → State
set_captures x s = record { page = s.page; captures = x; media = s.media; tight = s.tight; labels = s.labels; flags = s.flags; waiting = s.waiting; table = s.table; kept = s.kept; fixed = s.fixed }

abbrev pub set_media : List Media → State → State
set_media x s = record { page = s.page; captures = s.captures; media = x; tight = s.tight; labels = s.labels; flags = s.flags; waiting = s.waiting; table = s.table; kept = s.kept; fixed = s.fixed }

abbrev pub set_tight : List Bool → State → State
set_tight x s = record { page = s.page; captures = s.captures; media = s.media; tight = x; labels = s.labels; flags = s.flags; waiting = s.waiting; table = s.table; kept = s.kept; fixed = s.fixed }

abbrev pub set_labels : List Span → State → State
set_labels x s = record { page = s.page; captures = s.captures; media = s.media; tight = s.tight; labels = x; flags = s.flags; waiting = s.waiting; table = s.table; kept = s.kept; fixed = s.fixed }

abbrev pub set_flags : Flags → State → State
set_flags x s = record { page = s.page; captures = s.captures; media = s.media; tight = s.tight; labels = s.labels; flags = x; waiting = s.waiting; table = s.table; kept = s.kept; fixed = s.fixed }

abbrev pub set_waiting : Waiting → State → State
set_waiting x s = record { page = s.page; captures = s.captures; media = s.media; tight = s.tight; labels = s.labels; flags = s.flags; waiting = x; table = s.table; kept = s.kept; fixed = s.fixed }

abbrev pub set_table : Table → State → State
set_table x s = record { page = s.page; captures = s.captures; media = s.media; tight = s.tight; labels = s.labels; flags = s.flags; waiting = s.waiting; table = x; kept = s.kept; fixed = s.fixed }

abbrev pub set_kept : Kept → State → State
set_kept x s = record { page = s.page; captures = s.captures; media = s.media; tight = s.tight; labels = s.labels; flags = s.flags; waiting = s.waiting; table = s.table; kept = x; fixed = s.fixed }

-- ---- flags

-- each under the name of its field
pub data Flag : Type 0 where
  slurp encode raw alt head : Flag

abbrev pub with_flag : Flag → Bool → Flags → Flags
with_flag slurp x f = record { slurp = x; encode = f.encode; raw = f.raw; alt = f.alt; head = f.head }
with_flag encode x f = record { slurp = f.slurp; encode = x; raw = f.raw; alt = f.alt; head = f.head }
with_flag raw x f = record { slurp = f.slurp; encode = f.encode; raw = x; alt = f.alt; head = f.head }
with_flag alt x f = record { slurp = f.slurp; encode = f.encode; raw = f.raw; alt = x; head = f.head }
with_flag head x f = record { slurp = f.slurp; encode = f.encode; raw = f.raw; alt = f.alt; head = x }

abbrev pub set_flag : Flag → Bool → State → State
set_flag f x s = set_flags (with_flag f x s.flags) s

abbrev pub flag_of : Flag → Flags → Bool
flag_of slurp f = f.slurp
flag_of encode f = f.encode
flag_of raw f = f.raw
flag_of alt f = f.alt
flag_of head f = f.head

-- ---- what waits

abbrev pub set_rank : Option ℕ → State → State
set_rank x s = let w = s.waiting in set_waiting (record { rank = x; setext = w.setext; seen = w.seen; fences = w.fences; marker = w.marker; first = w.first }) s

abbrev pub set_setext : Option (List ℕ) → State → State
set_setext x s = let w = s.waiting in set_waiting (record { rank = w.rank; setext = x; seen = w.seen; fences = w.fences; marker = w.marker; first = w.first }) s

abbrev pub set_seen : Option Bool → State → State
set_seen x s = let w = s.waiting in set_waiting (record { rank = w.rank; setext = w.setext; seen = x; fences = w.fences; marker = w.marker; first = w.first }) s

abbrev pub set_fences : Option ℕ → State → State
set_fences x s = let w = s.waiting in set_waiting (record { rank = w.rank; setext = w.setext; seen = w.seen; fences = x; marker = w.marker; first = w.first }) s

abbrev pub set_marker : Option Marker → State → State
set_marker x s = let w = s.waiting in set_waiting (record { rank = w.rank; setext = w.setext; seen = w.seen; fences = w.fences; marker = x; first = w.first }) s

abbrev pub set_first : Option Bool → State → State
set_first x s = let w = s.waiting in set_waiting (record { rank = w.rank; setext = w.setext; seen = w.seen; fences = w.fences; marker = w.marker; first = x }) s

-- ---- tables

abbrev pub set_aligns : Option (List ℕ) → State → State
set_aligns x s = set_table (record { aligns = x; column = s.table.column }) s

abbrev pub set_column : ℕ → State → State
set_column x s = set_table (record { aligns = s.table.aligns; column = x }) s

-- ---- what is kept, in order

abbrev pub add_definition : Definition → State → State
add_definition d s = let k = s.kept in set_kept (record { definitions = k.definitions ++ (d ∷ []); footnotes = k.footnotes; calls = k.calls }) s

abbrev pub add_footnote : Footnote → State → State
add_footnote f s = let k = s.kept in set_kept (record { definitions = k.definitions; footnotes = k.footnotes ++ (f ∷ []); calls = k.calls }) s

abbrev pub set_calls : List Call → State → State
set_calls x s = let k = s.kept in set_kept (record { definitions = k.definitions; footnotes = k.footnotes; calls = x }) s

-- ---- of a medium

abbrev pub set_label_id : Span → Media → Media
set_label_id x m = record { image = m.image; label_id = some x; label = m.label; reference_id = m.reference_id; destination = m.destination; title = m.title }

abbrev pub set_label : List ℕ → Media → Media
set_label x m = record { image = m.image; label_id = m.label_id; label = some x; reference_id = m.reference_id; destination = m.destination; title = m.title }

abbrev pub set_reference_id : Span → Media → Media
set_reference_id x m = record { image = m.image; label_id = m.label_id; label = m.label; reference_id = some x; destination = m.destination; title = m.title }

abbrev pub set_destination : Destination → Media → Media
set_destination x m = record { image = m.image; label_id = m.label_id; label = m.label; reference_id = m.reference_id; destination = x; title = m.title }

abbrev pub set_title : List ℕ → Media → Media
set_title x m = record { image = m.image; label_id = m.label_id; label = m.label; reference_id = m.reference_id; destination = m.destination; title = some x }
