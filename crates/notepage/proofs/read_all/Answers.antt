-- Each read brings a part more, or changes nothing; the last ends the input. Assumes nothing.
use Rattle.notepage.proofs.Laws.{came-none, came-more, came-again, came-whole, came-failed}
use borrow.Author.Rules.{rules}
use Rattle.notepage.proofs.read_all.Goals as goal
use Rattle.notepage.proofs.read_all.Goals.{in-Some, in-Again}

pub loop-init : goal.loop-init
loop-init g c = search (came-none, rules)

pub loop-preserved : goal.loop-preserved
loop-preserved g c = elim c.match-last.branch [ in-Some w ↦ search (came-more, rules) | in-Again w ↦ search (came-again, rules) ]

pub returns-in-End : goal.returns-in-End
returns-in-End g c = search came-whole

pub returns-in-Failed : goal.returns-in-Failed
returns-in-Failed g c = search came-failed
