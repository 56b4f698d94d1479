-- Block 0, then the runs. Assumes nothing.
use Rattle.std.proofs.Common.{rules}
use Rattle.bundle_block.proofs.Block.{handed}
use Rattle.bundle_known.proofs.Laws.{begun, no_block, few-events, header-bad, header-good}
use Rattle.bundle_known.proofs.advance.Goals as goal

pub returns-then-k : goal.returns-then-k
returns-then-k c = search begun

pub returns-then-bytes-lt-BLOCK : goal.returns-then-bytes-lt-BLOCK
returns-then-bytes-lt-BLOCK c = search no_block

pub said-requires : goal.said-requires
said-requires c = search (few-events, rules, c.in_ok-judge_header.was)

pub returns-in_err-judge_header : goal.returns-in_err-judge_header
returns-in_err-judge_header c = rw (handed _ c.from_residual.ensures) (search (header-bad, c.in_err-judge_header.was))

pub returns : goal.returns
returns c = search (header-good, c.in_ok-judge_header.was)
