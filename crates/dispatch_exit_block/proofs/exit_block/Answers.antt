-- Each arm is its handler's; the setext heading's parts are another dispatcher's, and no other name has one. Assumes nothing.
use borrow.Author.Rules.{rules}
use mathlib.Core.Path.{refl}
use mathlib.Core.List.{[], ◌∷◌}
use Rattle.machine.specs.Handlers.{rows}
use Rattle.machine.specs.OnSetext.{on_exit_heading_setext_text, setext_rank, on_exit_heading_setext_underline_sequence}
use Rattle.dispatch_turns.proofs.Arms.{keeping, seeing, taking, rest}
use Rattle.dispatch_exit_block.proofs.Laws.{itself, ordered, unordered}
use Rattle.dispatch_exit_block.proofs.exit_block.Goals as goal

pub returns-in-12 : goal.returns-in-12
unfolding rows
returns-in-12 c = keeping 12 c.in-12.is refl c.on_exit_paragraph.ensures

pub returns-in-13 : goal.returns-in-13
unfolding rows
returns-in-13 c = keeping 13 c.in-13.is refl c.on_exit_heading_atx.ensures

pub returns-in-14 : goal.returns-in-14
unfolding rows
returns-in-14 c = seeing 14 c.in-14.is refl itself c.on_exit_heading_atx_sequence.ensures

pub returns-in-15 : goal.returns-in-15
unfolding rows
returns-in-15 c = taking 15 c.in-15.is refl c.on_exit_heading_atx_text.ensures

pub returns-in-19 : goal.returns-in-19
unfolding rows
returns-in-19 c = keeping 19 c.in-19.is refl c.on_exit_thematic_break.ensures

pub returns-in-20 : goal.returns-in-20
unfolding rows
returns-in-20 c = keeping 20 c.in-20.is refl c.on_exit_block_quote.ensures

pub returns-in-21 : goal.returns-in-21
unfolding rows
returns-in-21 c = seeing 21 c.in-21.is refl (ordered c.in-21.is) c.on_exit_list.ensures

pub returns-in-22 : goal.returns-in-22
unfolding rows
returns-in-22 c = seeing 22 c.in-22.is refl (unordered c.in-22.is) c.on_exit_list-in-22.ensures

pub returns-in_default : goal.returns-in_default
unfolding rows on_exit_heading_setext_text setext_rank on_exit_heading_setext_underline_sequence
returns-in_default c = rest (22 ∷ 21 ∷ 20 ∷ 19 ∷ 15 ∷ 14 ∷ 13 ∷ 12 ∷ []) refl (search rules)
