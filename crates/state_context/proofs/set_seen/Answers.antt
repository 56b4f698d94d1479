-- One digit.
use borrow.Author.Rules.{rules}
use Rattle.state_context.specs.Rel.{answer_of}
use Rattle.state_context.proofs.Awaited.{answer-small, sees}
use Rattle.state_context.proofs.set_seen.Goals as goal

pub with_digit-requires : goal.with_digit-requires
with_digit-requires c = (search rules, answer-small (answer_of c.args.x) c.answer_digit-d.ensures)

pub returns : goal.returns
returns c = sees _ c.answer_digit-d.ensures c.with_digit.ensures
