-- Each arm is its handler's; a call is another dispatcher's, and no other name has one. Assumes nothing.
use borrow.Author.Rules.{rules}
use mathlib.Core.Path.{refl}
use mathlib.Core.List.{[], ◌∷◌}
use Rattle.machine.specs.Handlers.{rows}
use Rattle.machine.specs.OnFootnote.{on_enter_gfm_footnote_call}
use Rattle.dispatch_turns.proofs.Turns.{from-keeps, from-sets}
use Rattle.dispatch_turns.proofs.Arms.{arm, keeping, opening, beginning, rest}
use Rattle.dispatch_enter.proofs.enter_gfm.Goals as goal

pub returns-in-57 : goal.returns-in-57
unfolding rows
returns-in-57 c = arm 57 c.in-57.is refl (from-keeps c.on_enter_gfm_table.ensures)

pub returns-in-58 : goal.returns-in-58
unfolding rows
returns-in-58 c = keeping 58 c.in-58.is refl c.on_enter_gfm_table_head.ensures

pub returns-in-59 : goal.returns-in-59
unfolding rows
returns-in-59 c = keeping 59 c.in-59.is refl c.on_enter_gfm_table_body.ensures

pub returns-in-60 : goal.returns-in-60
unfolding rows
returns-in-60 c = keeping 60 c.in-60.is refl c.on_enter_gfm_table_row.ensures

pub returns-in-61 : goal.returns-in-61
unfolding rows
returns-in-61 c = opening 61 c.in-61.is refl c.on_enter_gfm_table_cell.ensures

pub returns-in-63 : goal.returns-in-63
unfolding rows
returns-in-63 c = arm 63 c.in-63.is refl (from-sets c.on_enter_gfm_footnote_definition.ensures)

pub returns-in-64 : goal.returns-in-64
unfolding rows
returns-in-64 c = beginning 64 c.in-64.is refl c.on_enter_buffer.ensures

pub returns-in_default : goal.returns-in_default
unfolding rows on_enter_gfm_footnote_call
returns-in_default c = rest (64 ∷ 63 ∷ 61 ∷ 60 ∷ 59 ∷ 58 ∷ 57 ∷ []) refl (search rules)
