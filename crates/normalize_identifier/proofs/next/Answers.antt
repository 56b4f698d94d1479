-- The end, a space, or a byte: a law each. Assumes nothing.
use Rattle.normalize_identifier.proofs.Steps.{step_end, step-space, step-byte}
use Rattle.normalize_identifier.proofs.next.Goals as goal

pub returns-then-label-at : goal.returns-then-label-at
returns-then-label-at c = search step_end

pub returns-then-c-at : goal.returns-then-c-at
returns-then-c-at c = search step-space

pub returns : goal.returns
returns c = search step-byte
