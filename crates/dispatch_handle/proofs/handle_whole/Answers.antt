-- By enter or exit. Assumes nothing.
use native.Mathlib.Omega.{arith}
use Rattle.dispatch_handle.proofs.Laws.{wholly-enter, wholly-exit}
use Rattle.dispatch_handle.proofs.handle_whole.Goals as goal

pub returns-then-is_enter : goal.returns-then-is_enter
returns-then-is_enter c = wholly-enter c.is_enter.ensures (omega (arith, c.well_formed)) c.if-is_enter.true c.on_enter.ensures

pub returns : goal.returns
returns c = wholly-exit c.is_enter.ensures (omega (arith, c.well_formed)) c.if-is_enter.false c.on_exit.ensures
