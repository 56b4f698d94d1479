-- Answered, or with room, or without. Assumes nothing.
use Rattle.bundle_parts.proofs.Calls.{fed-done, fed-more, fed-short}
use Rattle.bundle_parts.proofs.feed_state.Goals as goal

pub returns-then-is_some : goal.returns-then-is_some
returns-then-is_some c = search fed-done

pub returns-then-is_roomy : goal.returns-then-is_roomy
returns-then-is_roomy c = search fed-more

pub returns : goal.returns
returns c = search fed-short
