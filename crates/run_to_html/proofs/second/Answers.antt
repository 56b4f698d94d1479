use Rattle.std.proofs.Common.{◌≡◌, rules, arith}
use Rattle.std.specs.Prelude.{Err}
use Rattle.run_to_html.proofs.Both.{second-full, second-on}
use Rattle.run_to_html.proofs.second.Goals as goal

pub returns-in_err-c : goal.returns-in_err-c
returns-in_err-c c = let e : c.from_residual.result ≡ Err c.in_err-c.field-0.0 = search rules in rw e (second-full _ c.in_err-c.was c.pass.ensures)

pub shape_of-work : goal.shape_of-work
shape_of-work c = omega (arith, c.pass.auto, c.finish.auto)

pub shape_of-starts : goal.shape_of-starts
shape_of-starts c = omega (arith, c.pass.auto, c.finish.auto)

pub shape_of-out : goal.shape_of-out
shape_of-out c = omega (arith, c.pass.auto, c.finish.auto)

pub returns : goal.returns
returns c = second-on c.in_ok-c.was (omega (arith, c.pass.auto)) c.pass.ensures c.finish.ensures
