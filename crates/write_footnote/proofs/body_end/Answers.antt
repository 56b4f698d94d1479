-- From the body's end: a line ending is left out, another byte ends the search. Assumes nothing.
use Rattle.std.proofs.Common.{arith}
use Rattle.write_footnote.proofs.Bodies.{end-start, end-eol, end-found, end_none}
use Rattle.write_footnote.proofs.body_end.Goals as goal

pub loop-i-init : goal.loop-i-init
loop-i-init c = end-start c.args.body.now

pub loop-i-preserved : goal.loop-i-preserved
loop-i-preserved c = end-eol c.args.body.now c.loop-i.i _ c.loop-i.invariant c.is_eol.result c.loop-i-test.true c.loop-i.auto.i c.is_eol.ensures c.if-not-is_eol.false

pub returns-then-not-is_eol : goal.returns-then-not-is_eol
returns-then-not-is_eol c =
    let e = end-found c.args.body.now c.loop-i.i _ c.loop-i.invariant c.is_eol.result c.loop-i-test.true c.loop-i.auto.i c.is_eol.ensures c.if-not-is_eol.true in
    omega arith

pub returns : goal.returns
returns c = end_none c.args.body.now c.loop-i.i _ c.loop-i.invariant c.loop-i-test.false
