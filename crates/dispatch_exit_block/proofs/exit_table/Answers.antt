-- Each arm is its handler's; media, definitions and footnotes are another dispatcher's, and no other name has one. Assumes nothing.
use borrow.Author.Rules.{rules}
use mathlib.Core.Path.{refl}
use mathlib.Core.List.{[], ◌∷◌}
use Rattle.machine.specs.Handlers.{rows}
use Rattle.machine.specs.OnMedia.{on_exit_media}
use Rattle.machine.specs.OnLink.{on_exit_label, on_exit_label_text, on_exit_resource_destination_string, on_exit_resource_title_string, on_exit_reference_string}
use Rattle.machine.specs.OnDefinition.{on_exit_definition, on_exit_definition_label_string, on_exit_definition_destination_string, on_exit_definition_title_string}
use Rattle.machine.specs.OnFootnote.{on_exit_gfm_footnote_call, on_exit_gfm_footnote_definition, on_exit_gfm_footnote_definition_label_string}
use Rattle.dispatch_exit_block.proofs.Laws.{renewing}
use Rattle.dispatch_turns.proofs.Arms.{keeping, taking, ending, rest}
use Rattle.dispatch_exit_block.proofs.exit_table.Goals as goal

pub returns-in-49 : goal.returns-in-49
unfolding rows
returns-in-49 c = ending 49 c.in-49.is refl c.on_exit_drop.ensures

pub returns-in-57 : goal.returns-in-57
unfolding rows
returns-in-57 c = keeping 57 c.in-57.is refl c.on_exit_gfm_table.ensures

pub returns-in-58 : goal.returns-in-58
unfolding rows
returns-in-58 c = keeping 58 c.in-58.is refl c.on_exit_gfm_table_head.ensures

pub returns-in-59 : goal.returns-in-59
unfolding rows
returns-in-59 c = keeping 59 c.in-59.is refl c.on_exit_gfm_table_body.ensures

pub returns-in-60 : goal.returns-in-60
unfolding rows
returns-in-60 c = keeping 60 c.in-60.is refl c.on_exit_gfm_table_row.ensures

pub returns-in-61 : goal.returns-in-61
unfolding rows
returns-in-61 c = taking 61 c.in-61.is refl c.on_exit_gfm_table_cell.ensures

pub returns-in-64 : goal.returns-in-64
unfolding rows
returns-in-64 c = renewing 64 c.in-64.is refl c.on_exit_gfm_footnote_definition_prefix.ensures

pub returns-in_default : goal.returns-in_default
unfolding rows on_exit_media on_exit_label on_exit_label_text on_exit_resource_destination_string on_exit_resource_title_string on_exit_reference_string on_exit_definition on_exit_definition_label_string on_exit_definition_destination_string on_exit_definition_title_string on_exit_gfm_footnote_call on_exit_gfm_footnote_definition on_exit_gfm_footnote_definition_label_string
returns-in_default c = rest (64 ∷ 61 ∷ 60 ∷ 59 ∷ 58 ∷ 57 ∷ 49 ∷ []) refl (search rules)
