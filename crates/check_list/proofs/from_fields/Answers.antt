-- A fault is the answer, else what the later passes say. Assumes nothing.
use Rattle.std.proofs.lemmas.Result.{err_from_is_err_and}
use Rattle.check_list.proofs.Order.{looked-fault, looked-through}
use Rattle.check_list.proofs.from_fields.Goals as goal

pub returns-in_err-passed : goal.returns-in_err-passed
returns-in_err-passed c =
    let p = err_from_is_err_and c.from_residual.result c.from_residual.ensures.1 in
    rw (p.1, p.2) (looked-fault c.args.text.now c.args.events.now c.in_err-passed.field-0.0 c.in_err-passed.ensures)

pub returns : goal.returns
returns c = looked-through c.args.text.now c.args.events.now c.in_ok-passed.ensures c.through.ensures
