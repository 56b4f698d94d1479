-- A bundle that comes in parts (RULES R15.10), on the joined bytes: as the whole-file reader's, but each block is judged once it has come whole, and what is wrong with the length only at the end. Assumes nothing.
use Rattle.std.specs.Prelude.{Bool, ◌&&◌, List, [], ℕ, ◌+◌, ◌-◌, ◌/◌, min, leb, length, if◌then◌else◌, Ok}
use Rattle.bundle_block.specs.declared.Refusal.TheVariants.{Short}
use Rattle.bundle_block.specs.Block.{Verdict, edition_in, ◌before◌}
use Rattle.bundle_run.specs.Run.{judge_run, held_in}
use Rattle.bundle_read.specs.Bundle.{text_length, event_length, text_blocks, event_blocks, text_part, event_part, judge_length, judge_header, judge_count, Meaning, refused, meant}
use Rattle.bundle_read.specs.Sizes.{least_room, text_room, event_room, text_kind, event_kind}

-- the two buffers are long enough; else refusal 1
abbrev pub is_roomy : (text_buffer event_buffer : ℕ) → Bool
is_roomy text_buffer event_buffer = leb least_room text_buffer && leb least_room event_buffer

module _ (bundle : List ℕ) where
  -- of the text blocks and of the event blocks that the header asks for: how many have come whole
  abbrev pub text_blocks_came : ℕ
  text_blocks_came = min (length bundle / 512 - 1) (text_blocks bundle)

  abbrev pub event_blocks_came : ℕ
  event_blocks_came = min (length bundle / 512 - (1 + text_blocks bundle)) (event_blocks bundle)

  -- as judge_text and judge_events of the whole-file reader, for these blocks alone
  unfoldable pub judge_text_came : Verdict
  judge_text_came = judge_run (edition_in bundle) text_kind text_room 1 text_blocks_came (text_length bundle) (text_part bundle)

  unfoldable pub judge_events_came : Verdict
  judge_events_came = judge_run (edition_in bundle) event_kind event_room (1 + text_blocks bundle) event_blocks_came (event_length bundle) (event_part bundle)

  -- while it comes: each block that has come whole, in order; bytes behind the last one asked for are not judged
  unfoldable pub judge_came : Verdict
  judge_came = if leb 512 (length bundle) then judge_header bundle before judge_text_came before judge_events_came else Ok tt

  -- at the end: then length 0, no multiple of 512, and the count
  unfoldable pub judge_late : Verdict
  judge_late = judge_came before judge_length bundle before judge_count bundle

  -- what the blocks that have come hold
  unfoldable pub text_so_far : List ℕ
  text_so_far = if leb 512 (length bundle) then held_in text_room text_blocks_came (text_length bundle) (text_part bundle) else []

  unfoldable pub events_so_far : List ℕ
  events_so_far = if leb 512 (length bundle) then held_in event_room event_blocks_came (event_length bundle) (event_part bundle) else []

  -- what the reader in parts makes of a bundle at its end, the buffers apart; and refusal 1 before
  unfoldable pub read_late : Meaning
  read_late = meant judge_late bundle

  unfoldable pub call_late : (text_buffer event_buffer : ℕ) → Meaning
  call_late text_buffer event_buffer = if is_roomy text_buffer event_buffer then read_late else refused Short
