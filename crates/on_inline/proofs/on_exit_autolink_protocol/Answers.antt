-- One after the other.
use Rattle.machine.specs.OnInline.{generate_autolink, on_exit_autolink_protocol}
use Rattle.state_context.proofs.Commands.{seq, narrow}
use Rattle.on_inline.proofs.on_exit_autolink_protocol.Goals as goal

pub returns : goal.returns
unfolding on_exit_autolink_protocol generate_autolink
returns c = seq c.begin_protocol-r.ensures (narrow (λ t v. v.sees) c.end_autolink.ensures)
