-- Each arm is its handler's; no other name of these has one. Assumes nothing.
use borrow.Author.Rules.{rules}
use mathlib.Core.Path.{refl}
use mathlib.Core.List.{[], ◌∷◌}
use Rattle.machine.specs.Handlers.{rows}
use Rattle.dispatch_turns.proofs.Arms.{keeping, seeing, taking, ending, rest}
use Rattle.dispatch_exit_block.proofs.Laws.{of-event, of-place}
use Rattle.dispatch_exit_block.proofs.exit_content.Goals as goal

pub returns-in-23 : goal.returns-in-23
unfolding rows
returns-in-23 c = seeing 23 c.in-23.is refl of-place c.exit_list_item.ensures

pub returns-in-26 : goal.returns-in-26
unfolding rows
returns-in-26 c = seeing 26 c.in-26.is refl of-event c.on_exit_list_item_value.ensures

pub returns-in-27 : goal.returns-in-27
unfolding rows
returns-in-27 c = seeing 27 c.in-27.is refl of-place c.exit_raw_flow.ensures

pub returns-in-28 : goal.returns-in-28
unfolding rows
returns-in-28 c = seeing 28 c.in-28.is refl of-place c.exit_raw_flow-in-28.ensures

pub returns-in-29 : goal.returns-in-29
unfolding rows
returns-in-29 c = keeping 29 c.in-29.is refl c.on_exit_raw_flow_fence.ensures

pub returns-in-30 : goal.returns-in-30
unfolding rows
returns-in-30 c = taking 30 c.in-30.is refl c.on_exit_raw_flow_fence_info.ensures

pub returns-in-31 : goal.returns-in-31
unfolding rows
returns-in-31 c = ending 31 c.in-31.is refl c.on_exit_drop.ensures

pub returns-in-32 : goal.returns-in-32
unfolding rows
returns-in-32 c = seeing 32 c.in-32.is refl of-event c.on_exit_raw_flow_chunk.ensures

pub returns-in_default : goal.returns-in_default
unfolding rows
returns-in_default c = rest (32 ∷ 31 ∷ 30 ∷ 29 ∷ 28 ∷ 27 ∷ 26 ∷ 23 ∷ []) refl (search rules)
