-- By the first byte of the underline.
use borrow.Author.Rules.{rules}
use Rattle.state_context.proofs.Commands.{puts, whether-yes, whether-no}
use Rattle.on_setext.proofs.Dashes.{tells-dashes}
use Rattle.machine.specs.OnSetext.{setext_rank}
use Rattle.on_setext.proofs.push_rank.Goals as goal

pub returns-then-dashes : goal.returns-then-dashes
unfolding setext_rank
returns-then-dashes c = whether-yes tells-dashes (search rules) (puts c.push.ensures)

pub returns : goal.returns
unfolding setext_rank
returns c = whether-no tells-dashes (search rules) (puts c.push-2.ensures)
