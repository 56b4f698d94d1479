-- The exits that are not quiet are those of this crate. Assumes nothing.
use mathlib.Core.Path.{◌≡◌, refl}
use mathlib.Core.Bool.{false, not}
use Prim.Native.Nat.{ℕ, suc-le-suc, ◌≤◌}
use Rattle.event.specs.declared.Event.{Event}
use Rattle.event.specs.Event.{is_enter}
use Rattle.machine.specs.Handlers.{rows}
use Rattle.machine.specs.OnText.{on_exit_data, on_exit_character_reference_marker, on_exit_character_reference_marker_numeric, on_exit_character_reference_marker_hexadecimal, on_exit_character_reference_value, on_exit_line_ending, on_exit_blank_line_ending, on_exit_html, on_exit_html_data, on_exit_drop}
use Rattle.machine.specs.OnInline.{on_exit_emphasis, on_exit_strong, on_exit_break, on_exit_raw_text, on_exit_autolink_email, on_exit_autolink_protocol, generate_autolink}
use Rattle.machine.specs.OnFlow.{on_exit_paragraph, on_exit_block_quote, on_exit_thematic_break, on_exit_raw_flow_fence, on_exit_raw_flow_fence_info, on_exit_raw_flow_chunk, on_exit_raw_flow}
use Rattle.machine.specs.OnHeading.{on_exit_heading_atx_sequence, on_exit_heading_atx_text, on_exit_heading_atx}
use Rattle.machine.specs.OnSetext.{on_exit_heading_setext_text, on_exit_heading_setext_underline_sequence, setext_rank}
use Rattle.machine.specs.OnList.{on_exit_list, on_exit_list_item_value, on_exit_list_item}
use Rattle.machine.specs.OnTable.{on_exit_gfm_table, on_exit_gfm_table_head, on_exit_gfm_table_body}
use Rattle.machine.specs.OnCell.{on_enter_gfm_table_cell, on_exit_gfm_table_cell, on_exit_gfm_table_row}
use Rattle.machine.specs.OnLink.{on_exit_label, on_exit_label_text, on_exit_reference_string, on_exit_resource_destination_string, on_exit_resource_title_string}
use Rattle.machine.specs.OnMedia.{on_exit_media}
use Rattle.machine.specs.OnDefinition.{on_exit_definition_label_string, on_exit_definition_destination_string, on_exit_definition_title_string, on_exit_definition}
use Rattle.machine.specs.OnFootnote.{on_exit_gfm_footnote_call, on_exit_gfm_footnote_definition_label_string, on_exit_gfm_footnote_definition_prefix, on_exit_gfm_footnote_definition}
use Rattle.state_whole.specs.Quiet.{is_quiet}
use Rattle.dispatch_turns.specs.Turns.{command_for}
use Rattle.dispatch_turns.proofs.Arms.{handler_at, below, each}
use Rattle.dispatch_turns.proofs.Loud.{quiet_by}
use Rattle.dispatch_media.specs.Exits.{exits_whole}

names : below 256 (λ n. is_quiet (handler_at false n)) ≡ below 256 (λ n. not (exits_whole n))
unfolding rows on_exit_data on_exit_character_reference_marker on_exit_character_reference_marker_numeric on_exit_character_reference_marker_hexadecimal on_exit_character_reference_value on_exit_line_ending on_exit_blank_line_ending on_exit_emphasis on_exit_strong on_exit_break on_exit_raw_text on_exit_html on_exit_html_data on_exit_autolink_email on_exit_autolink_protocol on_exit_paragraph on_exit_block_quote on_exit_thematic_break on_exit_heading_atx_sequence on_exit_heading_atx_text on_exit_heading_atx on_exit_heading_setext_text on_exit_heading_setext_underline_sequence on_exit_raw_flow_fence on_exit_raw_flow_fence_info on_exit_raw_flow_chunk on_exit_raw_flow on_exit_list on_exit_list_item_value on_exit_list_item on_exit_gfm_table on_exit_gfm_table_head on_exit_gfm_table_body on_exit_gfm_table_cell on_exit_gfm_table_row on_exit_drop on_exit_label on_exit_label_text on_exit_reference_string on_exit_resource_destination_string on_exit_resource_title_string on_exit_media on_exit_definition_label_string on_exit_definition_destination_string on_exit_definition_title_string on_exit_definition on_exit_gfm_footnote_call on_exit_gfm_footnote_definition_label_string on_exit_gfm_footnote_definition_prefix on_exit_gfm_footnote_definition generate_autolink setext_rank on_enter_gfm_table_cell
names = refl

pub quiet-exit : (n : ℕ) → n ≤ 255 → is_quiet (handler_at false n) ≡ not (exits_whole n)
quiet-exit n h = each (λ n. is_quiet (handler_at false n)) (λ n. not (exits_whole n)) 256 names n (suc-le-suc h)

pub quiet_is : (e : Event) → is_enter e ≡ false → e.name ≤ 255 → is_quiet (command_for e) ≡ not (exits_whole e.name)
quiet_is e = quiet_by exits_whole e quiet-exit
