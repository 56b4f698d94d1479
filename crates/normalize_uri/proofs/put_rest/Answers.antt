-- One more byte, as it is or encoded by itself. Assumes nothing.
use Rattle.lent.proofs.Writing.{all, step, done}
use Rattle.normalize_uri.proofs.Laws.{part_end}
use Rattle.normalize_uri.proofs.Runs.{rest-marks, rest-moved, rest-marked}
use Rattle.std.proofs.Common.{rules}
use Rattle.normalize_uri.proofs.put_rest.Goals as goal

pub loop-i-init : goal.loop-i-init
loop-i-init c = (search rules, all)

pub loop-i-preserved-then-mark-eq0 : goal.loop-i-preserved-then-mark-eq0
loop-i-preserved-then-mark-eq0 c = (search rest-marks, search (step, rest-moved))

pub loop-i-preserved : goal.loop-i-preserved
loop-i-preserved c = (search rest-marks, search (step, rest-marked))

pub returns : goal.returns
returns c = search (done, part_end)
