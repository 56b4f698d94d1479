-- By the cheap test, or by the exact one. Assumes nothing.
use Rattle.std.proofs.Common.{rules}
use Rattle.url_byte.specs.Private.{is_apart}
use Rattle.url_run.specs.Private.{is_odd}
use Rattle.url_run.proofs.Laws.{cheap, exact}
use Rattle.url_run.proofs.is_run.Goals as goal

pub returns-then-not-has_any : goal.returns-then-not-has_any
returns-then-not-has_any c = cheap c.args.value.now c.args.i c.has_any.result (c.has_any.ensures is_odd (λ b x e. search rules)) c.if-not-has_any.true

pub returns : goal.returns
returns c = exact c.args.value.now c.args.i c.has_any-2.result (c.has_any-2.ensures is_apart (λ b x e. search rules))
