-- The note bundle (RULES R15): a header block, then text blocks, then event blocks, none more than needed; written, judged and read. Assumes nothing.
use Rattle.std.specs.Prelude.{◌&&◌, List, ◌++◌, ℕ, ◌+◌, ◌-◌, ◌*◌, ◌/◌, ◌%◌, eqb, leb, ltb, length, take, drop, Ok, Err}
use Rattle.bundle_block.specs.declared.Refusal.{Refusal}
use Rattle.bundle_block.specs.declared.Refusal.TheVariants.{Broken}
use Rattle.bundle_block.specs.Block.{Verdict, little, block_of, field, edition_in, ◌before◌, demand, judge_block}
use Rattle.bundle_run.specs.Run.{run_of, judge_run, held_in}
use Rattle.bundle_read.specs.Sizes.{most_text, most_events, record_size, text_room, event_room, header_used, header_kind, text_kind, event_kind}

-- as many blocks as so many bytes need
abbrev pub blocks_for : (room bytes : ℕ) → ℕ
blocks_for room bytes = (bytes + (room - 1)) / room

-- ---- written

-- the header's payload: text length u32, event count u32
abbrev pub header_of : List ℕ → List ℕ → List ℕ
header_of text events = little 4 (length text) ++ little 4 (length events / record_size)

-- a header block, as many text blocks as are needed, then as many event blocks
unfoldable pub bundle_of : List ℕ → List ℕ → ℕ → List ℕ
bundle_of text events edition =
    block_of edition 0 header_kind (header_of text events)
    ++ run_of edition text_kind text_room 1 (blocks_for text_room (length text)) text
    ++ run_of edition event_kind event_room (1 + blocks_for text_room (length text)) (blocks_for event_room (length events)) events

-- ---- read

module _ (bundle : List ℕ) where
  -- what the header says beside the edition
  abbrev pub text_length : ℕ
  text_length = field 8 4 bundle

  abbrev pub event_count : ℕ
  event_count = field 12 4 bundle

  -- and what follows from it
  abbrev pub event_length : ℕ
  event_length = record_size * event_count

  abbrev pub text_blocks : ℕ
  text_blocks = blocks_for text_room text_length

  abbrev pub event_blocks : ℕ
  event_blocks = blocks_for event_room event_length

  -- where the text blocks and the event blocks begin
  abbrev pub text_part : List ℕ
  text_part = drop 512 bundle

  abbrev pub event_part : List ℕ
  event_part = drop (512 * (1 + text_blocks)) bundle

  -- length 0, or no multiple of 512
  unfoldable pub judge_length : Verdict
  judge_length = demand (ltb 0 (length bundle) && eqb (length bundle % 512) 0) (Broken 0)

  -- block 0, and its two lengths; its edition is the one that the others are held to
  unfoldable pub judge_header : Verdict
  judge_header = judge_block (edition_in bundle) 0 header_kind header_used (take 512 bundle) before demand (leb text_length most_text && leb event_count most_events) (Broken 0)

  -- as many blocks as the header says
  unfoldable pub judge_count : Verdict
  judge_count = demand (eqb (length bundle / 512) (1 + text_blocks + event_blocks)) (Broken 0)

  -- the text blocks follow the header
  unfoldable pub judge_text : Verdict
  judge_text = judge_run (edition_in bundle) text_kind text_room 1 text_blocks text_length text_part

  -- the event blocks follow the text blocks
  unfoldable pub judge_events : Verdict
  judge_events = judge_run (edition_in bundle) event_kind event_room (1 + text_blocks) event_blocks event_length event_part

  -- in the order of RULES R15.6
  unfoldable pub judge_bundle : Verdict
  judge_bundle = judge_length before judge_header before judge_count before judge_text before judge_events

  -- what a good bundle holds
  unfoldable pub text_in : List ℕ
  text_in = held_in text_room text_blocks text_length text_part

  unfoldable pub events_in : List ℕ
  events_in = held_in event_room event_blocks event_length event_part

-- what a bundle says, or why it is refused
pub data Meaning : Type 0 where
  says : (text events : List ℕ) (edition : ℕ) → Meaning
  refused : Refusal → Meaning

-- a bundle with this verdict
abbrev pub meant : Verdict → List ℕ → Meaning
meant (Ok o) bundle = says (text_in bundle) (events_in bundle) (edition_in bundle)
meant (Err r) bundle = refused r

-- what the reader makes of a bundle, the buffers apart
unfoldable pub read_of : List ℕ → Meaning
read_of bundle = meant (judge_bundle bundle) bundle
