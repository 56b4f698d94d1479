use Rattle.run_next.proofs.Left.{here-inside, here-exit, here-enter}
use borrow.Author.Rules.{rules}
use Rattle.run_next.proofs.is_here.Goals as goal

pub returns-then-inside : goal.returns-then-inside
returns-then-inside c = search (here-inside, rules)

pub returns-then-kind_at-ne-ENTER : goal.returns-then-kind_at-ne-ENTER
returns-then-kind_at-ne-ENTER c = search (here-exit, rules)

pub returns : goal.returns
returns c = search (here-enter, rules)
