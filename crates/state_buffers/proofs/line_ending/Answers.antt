-- A push of the machine's line ending.
use Rattle.std.proofs.Common.{rules}
use Rattle.state_buffers.proofs.Lines.{ended-by}
use Rattle.state_buffers.proofs.line_ending.Goals as goal

pub returns : goal.returns
returns c = search (rules, ended-by)
