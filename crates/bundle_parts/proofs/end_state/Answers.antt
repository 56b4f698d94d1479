-- Answered, or with room, or without. Assumes nothing.
use Rattle.bundle_parts.proofs.Calls.{ended-done, ended-finished, ended-short}
use Rattle.bundle_parts.proofs.end_state.Goals as goal

pub returns-then-is_some : goal.returns-then-is_some
returns-then-is_some c = search ended-done

pub returns-then-is_roomy : goal.returns-then-is_roomy
returns-then-is_roomy c = search ended-finished

pub returns : goal.returns
returns c = search ended-short
