-- The context alone changes.
use borrow.Author.Rules.{rules}
use Rattle.write_held.proofs.Pages.{too_short, lifts-page}
use mathlib.Core.Path.{refl}
use native.Mathlib.Omega.{arith}
use Rattle.machine.specs.OnSetext.{setext_rank}
use Rattle.on_setext.proofs.start_heading.Goals as goal

pub returns-then-work-lt-SIZE : goal.returns-then-work-lt-SIZE
returns-then-work-lt-SIZE c = too_short (search rules)

pub returns : goal.returns
unfolding setext_rank
returns c = lifts-page refl c.push_start-r.ensures (omega (arith, c.push_start-r.auto))
