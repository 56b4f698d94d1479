-- Event records (RULES R2): 20 bytes each, little endian; read, packed, and the extra field taken apart. Assumes nothing.
use Rattle.std.specs.Prelude.{Bool, List, [], ◌∷◌, ◌++◌, ℕ, zero, suc, ◌+◌, ◌*◌, ◌/◌, ◌%◌, ◌^◌, ◌<◌, eqb, length, take, drop}
use Rattle.lent.specs.Bytes.{one_of}
use Rattle.little.specs.Little.{little, field}
use Rattle.event.specs.declared.Event.{Event}

-- kind u8, name u8, before u8, after u8, from u32, to u32, extra u64
unfoldable pub event_of : List ℕ → Event
event_of r =
    record {
      kind = field 0 1 r;
      name = field 1 1 r;
      before = field 2 1 r;
      after = field 3 1 r;
      from = record { 0 = field 4 4 r };
      to = record { 0 = field 8 4 r };
      extra = field 12 8 r;
    }

-- the bytes of a record, and how many whole records a buffer has
abbrev pub record_size : ℕ
record_size = 20

abbrev pub count_of : List ℕ → ℕ
count_of b = length b / record_size

-- how many names there are
abbrev pub name_count : ℕ
name_count = 66

-- the event at an index, counted from 0
unfoldable pub event_at : List ℕ → ℕ → Event
event_at b i = event_of (take record_size (drop (record_size * i) b))

-- the first n records, in order
unfoldable pub events_in : (n : ℕ) → List ℕ → List Event
events_in zero b = []
events_in (suc n) b = event_of (take record_size b) ∷ events_in n (drop record_size b)

-- the whole records of a buffer, in order
unfoldable pub events_of : List ℕ → List Event
events_of b = events_in (count_of b) b

-- an event as its record
unfoldable pub record_of : Event → List ℕ
record_of e =
    little 1 e.kind
    ++ little 1 e.name
    ++ little 1 e.before
    ++ little 1 e.after
    ++ little 4 e.from.0
    ++ little 4 e.to.0
    ++ little 8 e.extra

-- every field fits its bytes
pub record Fits (e : Event) : Type 0 where
  pub kind : e.kind < 256
  pub name : e.name < 256
  pub before : e.before < 256
  pub after : e.after < 256
  pub from : e.from.0 < 2 ^ 32
  pub to : e.to.0 < 2 ^ 32
  pub extra : e.extra < 2 ^ 64

-- ---- kind and name

-- kind 0 is an enter, 1 an exit
abbrev pub is_enter : Event → Bool
is_enter e = eqb e.kind 0

abbrev pub is_exit : Event → Bool
is_exit e = eqb e.kind 1

-- whether its name is one of ns
abbrev pub named : List ℕ → Event → Bool
named ns e = one_of ns e.name

-- ---- extra

-- of a list: 1 loose, 0 tight
abbrev pub is_loose : Event → Bool
is_loose e = eqb e.extra 1

-- of a table: the column count, in the low 8 bits
abbrev pub columns_of : Event → ℕ
columns_of e = e.extra % 256

-- and two bits for each column behind it: 0 is none, 1 left, 2 right, 3 center
abbrev pub alignment_of : Event → (column : ℕ) → ℕ
alignment_of e column = e.extra / 2 ^ (8 + 2 * column) % 4

-- the alignments of n columns from one on
unfoldable pub alignments_from : (column n : ℕ) → Event → List ℕ
alignments_from column zero e = []
alignments_from column (suc n) e = alignment_of e column ∷ alignments_from (column + 1) n e

-- those of all columns
unfoldable pub alignments_of : Event → List ℕ
alignments_of e = alignments_from 0 (columns_of e) e
