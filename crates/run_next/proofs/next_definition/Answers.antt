-- None of the events that were passed is a definition's. Assumes nothing.
use Rattle.std.proofs.Common.{◌≡◌, arith, rules}
use Rattle.run_next.proofs.Left.{walks-start, walks-between}
use Rattle.run_next.proofs.next_definition.Goals as goal

pub loop-i-init : goal.loop-i-init
loop-i-init c = (search rules, walks-start, omega arith)

pub returns-then-is_definition : goal.returns-then-is_definition
returns-then-is_definition c = c.loop-i.invariant.1

pub loop-i-preserved : goal.loop-i-preserved
loop-i-preserved c = let inv = c.loop-i.invariant in
    (inv.0, walks-between inv.1 (omega (arith, c.loop-i-test.true, inv.0)) c.is_definition.ensures c.if-is_definition.false, omega (arith, c.loop-i-test.true))

pub returns : goal.returns
returns c = let inv = c.loop-i.invariant in
    let e : c.max.result ≡ c.loop-i.i = omega (arith, c.max.ensures, c.loop-i-test.false, inv.2, c.loop-i.auto) in
    rw e inv.1
