-- The sizes of RULES R8.1 and R15, each in one place. Assumes nothing.
use Rattle.std.specs.Prelude.{◌≡◌, true, List, ℕ, ◌*◌, ◌%◌, ◌^◌, ◌≤◌, ◌<◌, length}
use Rattle.lent.specs.Bytes.{all}
use Rattle.bundle_block.specs.Block.{is_byte}
pub use Rattle.event.specs.Event.{record_size}

-- text in bytes, events in records
abbrev pub most_text : ℕ
most_text = 64000

abbrev pub most_events : ℕ
most_events = 3200

-- how many records an event block holds
abbrev pub records_per_block : ℕ
records_per_block = 25

-- each of the reader's two buffers has at least so many bytes
abbrev pub least_room : ℕ
least_room = 64000

-- how many payload bytes a header uses, and a text block and an event block can use
abbrev pub header_used : ℕ
header_used = 8

abbrev pub text_room : ℕ
text_room = 500

abbrev pub event_room : ℕ
event_room = records_per_block * record_size

-- the kinds of blocks
abbrev pub header_kind : ℕ
header_kind = 1

abbrev pub text_kind : ℕ
text_kind = 2

abbrev pub event_kind : ℕ
event_kind = 3

-- ---- what a bundle can hold

pub record Within (text events : List ℕ) (edition : ℕ) : Type 0 where
  pub text-bytes : all is_byte text ≡ true
  pub text-length : length text ≤ most_text
  pub event-bytes : all is_byte events ≡ true
  pub event-length : length events ≤ record_size * most_events
  pub event-records : length events % record_size ≡ 0
  pub edition-word : edition < 2 ^ 32
