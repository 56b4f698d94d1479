-- The captures come back in their place.
use borrow.Author.Rules.{rules}
use Rattle.write_held.proofs.Showing.{shows-short, shows-text}
use native.Mathlib.Omega.{arith}
use Rattle.write_held.proofs.push_text.Goals as goal

pub returns-then-work-lt-SIZE : goal.returns-then-work-lt-SIZE
returns-then-work-lt-SIZE c = shows-short (search rules)

pub returns : goal.returns
returns c = shows-text c.push.ensures (omega (arith, c.push.auto))
