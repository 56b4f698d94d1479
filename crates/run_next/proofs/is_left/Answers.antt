-- Not wanted, or idle. Assumes nothing.
use Rattle.run_next.proofs.Left.{leaves-idle, leaves-other}
use Rattle.run_next.proofs.is_left.Goals as goal

pub returns-then-is_wanted : goal.returns-then-is_wanted
returns-then-is_wanted c = leaves-idle _ c.is_wanted.ensures c.if-is_wanted.true c.kind_at.ensures c.name_at.ensures c.is_idle.ensures

pub returns : goal.returns
returns c = leaves-other _ c.is_wanted.ensures c.if-is_wanted.false
