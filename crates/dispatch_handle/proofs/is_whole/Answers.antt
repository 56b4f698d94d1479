-- By enter or exit. Assumes nothing.
use native.Mathlib.Omega.{arith}
use Rattle.dispatch_handle.proofs.Laws.{whole-enter, whole-exit}
use Rattle.dispatch_handle.proofs.is_whole.Goals as goal

pub returns-then-is_enter : goal.returns-then-is_enter
returns-then-is_enter c = whole-enter _ c.is_enter.ensures (omega (arith, c.well_formed)) c.if-is_enter.true c.enters_whole.ensures

pub returns : goal.returns
returns c = whole-exit _ c.is_enter.ensures (omega (arith, c.well_formed)) c.if-is_enter.false c.exits_whole.ensures
