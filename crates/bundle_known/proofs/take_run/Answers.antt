-- The blocks that are there and due, refused or taken. Assumes nothing.
use Rattle.std.proofs.Common.{rules}
use Rattle.bundle_block.proofs.Block.{handed}
use Rattle.bundle_known.proofs.Laws.{run-stops, run-took}
use Rattle.bundle_known.proofs.take_run.Goals as goal

pub returns-in_err-judge_run : goal.returns-in_err-judge_run
returns-in_err-judge_run c = rw (handed _ c.from_residual.ensures) (search (run-stops, c.in_err-judge_run.was))

pub returns : goal.returns
returns c =
    let at = c.args in
    let x = run-took _ _ _ at.came at.total at.bytes.now c.saturating_sub-left.ensures c.due-count.ensures.0 c.judge_run.ensures (c.in_ok-judge_run.was {u = tt}) c.copy_run.ensures.filled c.min.ensures in
    record { judged = x.judged; came = x.came; took = x.took; filled = search (rules, x.filled) }
