-- One space more, or none is left. Assumes nothing.
use Rattle.std.proofs.Common.{◌≡◌, ◌-◌, arith}
use Rattle.lent.proofs.Laws.{all, step, done}
use Rattle.write_pieces.proofs.Decimal.{space-more, space-end}
use Rattle.write_pieces.proofs.put_spaces.Goals as goal

pub loop-init : goal.loop-init
loop-init c = let e : c.args.n - 0 ≡ c.args.n = omega arith in rw e all

pub loop-preserved : goal.loop-preserved
loop-preserved c = search (step, space-more)

pub returns : goal.returns
returns c = search (done, space-end)
