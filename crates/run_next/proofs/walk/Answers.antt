-- Nothing is to be done at the events that were passed. Assumes nothing.
use Rattle.std.proofs.Common.{◌≡◌, arith, rules}
use Rattle.run_next.proofs.Left.{walks-start, walks-on, ahead-here, ahead-end}
use Rattle.run_next.proofs.walk.Goals as goal

pub loop-at-init : goal.loop-at-init
loop-at-init c = (search rules, walks-start, omega arith)

pub loop-at-preserved : goal.loop-at-preserved
loop-at-preserved c = let inv = c.loop-at.invariant in
    (inv.0, walks-on inv.1 (omega (arith, c.loop-at-test.true, inv.0)) c.stays_inside-inside.ensures c.is_left.ensures c.if-is_left.true, omega (arith, c.loop-at-test.true))

pub returns-in-loop-at : goal.returns-in-loop-at
returns-in-loop-at c = ahead-here c.loop-at.invariant.1 c.is_left.ensures c.if-is_left.false

pub returns : goal.returns
returns c = let inv = c.loop-at.invariant in
    let e : c.max-at.result ≡ c.loop-at.at = omega (arith, c.max-at.ensures, c.loop-at-test.false, inv.2, c.loop-at.auto) in
    rw e (ahead-end inv.1 (omega (arith, c.loop-at-test.false, inv.0)))
