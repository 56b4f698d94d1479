-- Each arm is its handler's; the other names from here on are another dispatcher's, or have none. Assumes nothing.
use borrow.Author.Rules.{rules}
use mathlib.Core.Path.{refl}
use mathlib.Core.List.{[], ◌∷◌}
use native.Mathlib.Omega.{arith}
use Rattle.machine.specs.Handlers.{rows}
use Rattle.dispatch_turns.proofs.Loud.{still}
use Rattle.dispatch_media.specs.Exits.{exits_whole}
use Rattle.dispatch_media.proofs.Names.{quiet-exit}
use Rattle.dispatch_media.proofs.Exits.{by-calls, by-footnotes, by-labels}
use Rattle.dispatch_media.proofs.exit_footnote.Goals as goal

pub returns-in-62 : goal.returns-in-62
unfolding rows
returns-in-62 c = record { exits = λ o d. by-calls 62 c.in-62.is refl c.on_exit_gfm_footnote_call.ensures }

pub returns-in-63 : goal.returns-in-63
unfolding rows
returns-in-63 c = record { exits = λ o d. by-footnotes 63 c.in-63.is refl c.on_exit_gfm_footnote_definition.ensures }

pub returns-in-65 : goal.returns-in-65
unfolding rows
returns-in-65 c = record { exits = λ o d. by-labels 65 c.in-65.is refl c.on_exit_gfm_footnote_definition_label_string.ensures }

pub returns-in_default : goal.returns-in_default
returns-in_default c = record { exits = λ o d. still exits_whole (λ n h. quiet-exit n (omega arith)) (65 ∷ 63 ∷ 62 ∷ []) refl (search rules) }
