-- By the last byte, where there is one.
use Rattle.state_buffers.proofs.Lines.{ends-none, ends-over, ends_last}
use Rattle.state_buffers.proofs.ends_line.Goals as goal

pub returns-then-to-from : goal.returns-then-to-from
returns-then-to-from c = search ends-none

pub returns-then-s-to : goal.returns-then-s-to
returns-then-s-to c = search ends-over

pub returns : goal.returns
returns c = search ends_last
