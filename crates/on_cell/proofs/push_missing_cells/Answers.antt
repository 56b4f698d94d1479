-- One is added, or none is left.
use Rattle.std.proofs.Common.{rules, arith, ◌≡◌, ◌-◌}
use Rattle.on_cell.proofs.Cells.{all_left, one_less, none_left}
use Rattle.on_cell.proofs.push_missing_cells.Goals as goal

pub loop-init : goal.loop-init
loop-init c = let e : c.missing-missing.result - 0 ≡ c.missing-missing.result = omega arith in (rw e (search all_left), search rules, search rules)

pub loop-preserved : goal.loop-preserved
loop-preserved c = (one_less c.loop.invariant.0 (omega arith) c.push_phantom_cell-r.ensures, search rules, search rules)

pub returns : goal.returns
returns c = none_left c.loop.invariant.0 (omega arith)
