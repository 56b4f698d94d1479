-- A block that is refused, one more, and the last. Assumes nothing.
use Rattle.bundle_block.proofs.Block.{handed-on}
use Rattle.bundle_run.proofs.Run.{run-bad, run-good, run_end}
use Rattle.bundle_run.proofs.judge_run.Goals as goal

pub returns-in_err-judge_block : goal.returns-in_err-judge_block
returns-in_err-judge_block c =
    handed-on _ c.from_residual.ensures _ (run-bad _ _ _ c.args.start _ _ _ c.args.blocks.now c.loop-index.auto.index c.loop-index-test.true c.min-here.ensures c.judge_block.ensures c.loop-index.invariant (c.in_err-judge_block.was {u = tt}))

pub loop-index-preserved : goal.loop-index-preserved
loop-index-preserved c =
    run-good _ _ _ c.args.start _ _ _ c.args.blocks.now c.loop-index.auto.index c.loop-index-test.true c.min-here.ensures c.judge_block.ensures c.loop-index.invariant (c.in_ok-judge_block.was {u = tt})

pub returns : goal.returns
returns c = search run_end
