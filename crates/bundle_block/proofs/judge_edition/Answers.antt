-- By what is called. Assumes nothing.
use Rattle.bundle_block.proofs.Block.{edition-judged}
use Rattle.bundle_block.proofs.judge_edition.Goals as goal

pub returns : goal.returns
returns c = search edition-judged
