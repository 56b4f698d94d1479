-- A record that breaks a rule, one more, and the last. Assumes nothing.
use Rattle.std.proofs.Common.{rules}
use Rattle.replay_machine.proofs.Takes.{few-next, records-broken, records-next, records-end}
use Rattle.replay_machine.proofs.take_records.Goals as goal

pub returns-in_err-came : goal.returns-in_err-came
returns-in_err-came c = rw c.from_residual.ensures (search (records-broken, c.in_err-came.was))

pub loop-i-preserved : goal.loop-i-preserved
loop-i-preserved c = let was = c.in_ok-came.was {u = tt} in (
  search rules,
  search rules,
  few-next _ c.loop-i.i c.args.records.now _ _ _ _ _ c.loop-i-test.true c.read-record.ensures c.take.ensures c.loop-i.invariant.3 2031585 was c.loop-i.invariant.2,
  records-next _ c.loop-i.i c.args.records.now _ _ _ _ _ c.loop-i-test.true c.read-record.ensures c.take.ensures c.loop-i.invariant.3 was,
)

pub returns : goal.returns
returns c = search (records-end, rules)
