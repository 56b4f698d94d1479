-- By the verdict on the block. Assumes nothing.
use Rattle.std.proofs.Common.{rules}
use Rattle.bundle_block.proofs.Block.{handed}
use Rattle.replay_log.proofs.Blocks.{index-small, few-small, took-bad, took-good}
use Rattle.replay_log.proofs.take_block.Goals as goal

pub take_payload-requires : goal.take_payload-requires
take_payload-requires c = search (index-small, few-small, rules, c.in_ok-judge_block.was)

pub returns-in_err-judge_block : goal.returns-in_err-judge_block
returns-in_err-judge_block c = rw (handed _ c.from_residual.ensures) (search (took-bad, rules, c.in_err-judge_block.was))

pub returns : goal.returns
returns c = search (took-good, rules, c.in_ok-judge_block.was)
