-- Each arm is its handler's; no other name of a block has one. Assumes nothing.
use borrow.Author.Rules.{rules}
use mathlib.Core.Path.{refl}
use mathlib.Core.List.{[], ◌∷◌}
use Rattle.machine.specs.Handlers.{rows}
use Rattle.dispatch_turns.proofs.Turns.{from-keeps}
use Rattle.dispatch_turns.proofs.Arms.{arm, keeping, beginning, rest}
use Rattle.dispatch_enter.proofs.enter_block.Goals as goal

pub returns-in-12 : goal.returns-in-12
unfolding rows
returns-in-12 c = keeping 12 c.in-12.is refl c.on_enter_paragraph.ensures

pub returns-in-15 : goal.returns-in-15
unfolding rows
returns-in-15 c = beginning 15 c.in-15.is refl c.on_enter_buffer.ensures

pub returns-in-17 : goal.returns-in-17
unfolding rows
returns-in-17 c = beginning 17 c.in-17.is refl c.on_enter_buffer-in-17.ensures

pub returns-in-20 : goal.returns-in-20
unfolding rows
returns-in-20 c = keeping 20 c.in-20.is refl c.on_enter_block_quote.ensures

pub returns-in-21 : goal.returns-in-21
unfolding rows
returns-in-21 c = arm 21 c.in-21.is refl (from-keeps c.enter_list.ensures)

pub returns-in-22 : goal.returns-in-22
unfolding rows
returns-in-22 c = arm 22 c.in-22.is refl (from-keeps c.enter_list-in-22.ensures)

pub returns-in-25 : goal.returns-in-25
unfolding rows
returns-in-25 c = keeping 25 c.in-25.is refl c.on_enter_list_item_marker.ensures

pub returns-in-27 : goal.returns-in-27
unfolding rows
returns-in-27 c = keeping 27 c.in-27.is refl c.on_enter_code_indented.ensures

pub returns-in-28 : goal.returns-in-28
unfolding rows
returns-in-28 c = keeping 28 c.in-28.is refl c.on_enter_raw_flow.ensures

pub returns-in-30 : goal.returns-in-30
unfolding rows
returns-in-30 c = beginning 30 c.in-30.is refl c.on_enter_buffer-in-30.ensures

pub returns-in-31 : goal.returns-in-31
unfolding rows
returns-in-31 c = beginning 31 c.in-31.is refl c.on_enter_buffer-in-31.ensures

pub returns-in_default : goal.returns-in_default
unfolding rows
returns-in_default c = rest (31 ∷ 30 ∷ 28 ∷ 27 ∷ 25 ∷ 22 ∷ 21 ∷ 20 ∷ 17 ∷ 15 ∷ 12 ∷ []) refl (search rules)
