-- By the variant.
use Rattle.state_buffers.proofs.Lines.{ends-lf, ends-cr, ends-crlf}
use Rattle.state_buffers.proofs.put_ending.Goals as goal

pub returns-in-Lf : goal.returns-in-Lf
returns-in-Lf c = search ends-lf

pub returns-in-Cr : goal.returns-in-Cr
returns-in-Cr c = search ends-cr

pub returns-in-CrLf : goal.returns-in-CrLf
returns-in-CrLf c = search ends-crlf
