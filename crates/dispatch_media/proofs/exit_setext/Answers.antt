-- Each arm is its handler's; the other names up to here are another dispatcher's. Assumes nothing.
use borrow.Author.Rules.{rules}
use mathlib.Core.Path.{refl}
use mathlib.Core.List.{[], ◌∷◌}
use native.Mathlib.Omega.{arith}
use Rattle.machine.specs.Handlers.{rows}
use Rattle.dispatch_turns.proofs.Loud.{still}
use Rattle.dispatch_media.specs.Exits.{exits_whole}
use Rattle.dispatch_media.proofs.Names.{quiet-exit}
use Rattle.dispatch_media.proofs.Exits.{by-work, by-page}
use Rattle.dispatch_media.proofs.exit_setext.Goals as goal

pub returns-in-17 : goal.returns-in-17
unfolding rows
returns-in-17 c = record { exits = λ o t. by-work 17 c.in-17.is refl c.on_exit_heading_setext_text.ensures }

pub returns-in-18 : goal.returns-in-18
unfolding rows
returns-in-18 c = record { exits = λ o t. by-page 18 c.in-18.is refl c.on_exit_heading_setext_underline_sequence.ensures }

pub returns-in_default : goal.returns-in_default
returns-in_default c = record { exits = λ o t. still exits_whole (λ n h. quiet-exit n (omega arith)) (18 ∷ 17 ∷ []) refl (search rules) }
