-- Two tests are a list of two.
use Rattle.state_buffers.proofs.Lines.{none_or}
use Rattle.state_buffers.proofs.is_eol.Goals as goal

pub returns : goal.returns
returns c = search none_or
