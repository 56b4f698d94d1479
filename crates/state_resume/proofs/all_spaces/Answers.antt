-- The answer from i on is the whole answer.
use Prim.Native.Nat.{◌-◌}
use borrow.Author.Rules.{rules}
use Rattle.state_resume.proofs.Trimmed.{spaces-more, spaces-not, spaces-end}
use Rattle.state_resume.proofs.all_spaces.Goals as goal

pub returns-then-w-i-ne32 : goal.returns-then-w-i-ne32
returns-then-w-i-ne32 c = search spaces-not

pub loop-i-preserved : goal.loop-i-preserved
loop-i-preserved c = search spaces-more

pub returns : goal.returns
returns c = search spaces-end
