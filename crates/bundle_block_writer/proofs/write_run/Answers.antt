-- A block more, or none is left.
use Rattle.std.proofs.Common.{rules}
use Rattle.lent.proofs.Writing.{all}
use Rattle.bundle_block_writer.proofs.Run.{run_step, room-next, run_end}
use Rattle.bundle_block_writer.proofs.write_run.Goals as goal

pub loop-index-init : goal.loop-index-init
loop-index-init c = search (all, rules)

pub loop-index-preserved : goal.loop-index-preserved
loop-index-preserved c = (search rules, search room-next, search run_step)

pub returns : goal.returns
returns c = search run_end
