-- A block that is refused, one more, and the last. Assumes nothing.
use Rattle.std.proofs.Common.{rules}
use Rattle.bundle_block.proofs.Block.{handed}
use Rattle.replay_log.proofs.Blocks.{blocks-stop, blocks-next, within-next, blocks-all, within_all, took-stop, took-all}
use Rattle.replay_log.proofs.take_blocks.Goals as goal

pub loop-i-init : goal.loop-i-init
loop-i-init c = search (within_all, blocks-all, rules)

pub returns-in_err-came : goal.returns-in_err-came
returns-in_err-came c = rw (handed _ c.from_residual.ensures) (search (took-stop, blocks-stop, rules, c.in_err-came.was))

pub loop-i-preserved : goal.loop-i-preserved
loop-i-preserved c = let was = c.in_ok-came.was {u = tt} in (
  search rules,
  search rules,
  search rules,
  within-next _ _ _ c.loop-i.i c.args.blocks.now _ _ _ _ _ _ c.loop-i-test.true c.take_block.ensures c.loop-i.invariant.4 was,
  blocks-next _ _ _ c.loop-i.i c.args.blocks.now _ _ _ _ _ _ c.loop-i-test.true c.take_block.ensures c.loop-i.invariant.4 was,
)

pub returns : goal.returns
returns c = search (took-all, rules)
