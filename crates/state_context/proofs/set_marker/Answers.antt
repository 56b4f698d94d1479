-- One digit.
use borrow.Author.Rules.{rules}
use Rattle.state_context.proofs.Awaited.{mark-small, marked}
use Rattle.state_context.proofs.set_marker.Goals as goal

pub with_digit-requires : goal.with_digit-requires
with_digit-requires c = (search rules, mark-small c.args.x c.marker_digit-d.ensures)

pub returns : goal.returns
returns c = marked _ c.marker_digit-d.ensures c.with_digit.ensures
