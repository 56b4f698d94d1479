-- By the first byte, the last, and the others.
use Rattle.state_resume.proofs.Trimmed.{cut-none, cut-first, cut-last, cut_all, cut-one}
use Rattle.state_resume.proofs.cut.Goals as goal

pub returns-then-to-from : goal.returns-then-to-from
returns-then-to-from c = search cut-none

pub returns-then-w-from-ne32 : goal.returns-then-w-from-ne32
returns-then-w-from-ne32 c = search cut-first

pub returns-then-w-to-ne32 : goal.returns-then-w-to-ne32
returns-then-w-to-ne32 c = search cut-last

pub returns-then-all_spaces : goal.returns-then-all_spaces
returns-then-all_spaces c = search cut_all

pub returns : goal.returns
returns c = search cut-one
