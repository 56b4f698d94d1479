-- By the name first.
use borrow.Author.Rules.{rules}
use Rattle.run_next.proofs.Left.{of-another, of-definition}
use Rattle.run_next.proofs.is_definition.Goals as goal

pub returns-then-name_at-ne-DEFINITION : goal.returns-then-name_at-ne-DEFINITION
returns-then-name_at-ne-DEFINITION c = search (of-another, rules)

pub returns : goal.returns
returns c = search (of-definition, rules)
