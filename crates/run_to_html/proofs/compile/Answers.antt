use Rattle.std.proofs.Common.{◌≡◌, rules, arith}
use Rattle.std.specs.Prelude.{Err}
use Rattle.run_to_html.proofs.Both.{first-full, first_on}
use Rattle.run_to_html.proofs.compile.Goals as goal

pub second-requires : goal.second-requires
second-requires c = omega (arith, c.pass.auto, c.requires)

pub returns-in_err-c : goal.returns-in_err-c
returns-in_err-c c = let e : c.from_residual.result ≡ Err c.in_err-c.field-0.0 = search rules in rw e (first-full _ c.in_err-c.was c.pass.ensures)

pub shape_of-work : goal.shape_of-work
shape_of-work c = omega (arith, c.pass.auto, c.second.auto)

pub shape_of-starts : goal.shape_of-starts
shape_of-starts c = omega (arith, c.pass.auto, c.second.auto)

pub shape_of-out : goal.shape_of-out
shape_of-out c = omega (arith, c.pass.auto, c.second.auto)

pub shape_of-definitions : goal.shape_of-definitions
shape_of-definitions c = omega (arith, c.pass.auto, c.second.auto)

pub shape_of-footnotes : goal.shape_of-footnotes
shape_of-footnotes c = omega (arith, c.pass.auto, c.second.auto)

pub shape_of-calls : goal.shape_of-calls
shape_of-calls c = omega (arith, c.pass.auto, c.second.auto)

pub shape_of-labels : goal.shape_of-labels
shape_of-labels c = omega (arith, c.pass.auto, c.second.auto)

pub returns : goal.returns
returns c = first_on c.in_ok-c.was (omega (arith, c.pass.auto)) c.pass.ensures c.second.ensures
