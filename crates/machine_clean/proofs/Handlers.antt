-- The table's texts are ASCII, so every handler leaves a clean state clean. Assumes nothing.
use mathlib.Core.Path.{◌≡◌}
use mathlib.Core.Bool.{Bool, true, false, ◌&&◌}
use mathlib.Core.List.{List, [], ◌∷◌}
use Prim.Native.Nat.{ℕ, zero, suc}
use lib.Dec.{T}
use lib.ListN.{get_or}
use Rattle.lent.proofs.Computed.{and_left, and_right}
use Rattle.event.specs.Event.{is_enter}
use Rattle.machine.specs.Outcome.{go}
use Rattle.machine.specs.State.{State}
use Rattle.machine.specs.Turn.{Turn}
use Rattle.machine.specs.Command.{nothing}
use Rattle.machine.specs.OnText.{on_exit_data, on_exit_character_reference_marker, on_exit_character_reference_marker_numeric, on_exit_character_reference_marker_hexadecimal, on_exit_character_reference_value, on_exit_line_ending, on_exit_blank_line_ending, on_enter_html_text, on_enter_html_flow, on_exit_html, on_exit_html_data, on_enter_buffer, on_exit_drop}
use Rattle.machine.specs.OnInline.{on_enter_emphasis, on_exit_emphasis, on_enter_strong, on_exit_strong, on_exit_break, on_enter_raw_text, on_exit_raw_text, generate_autolink, on_exit_autolink_email, on_exit_autolink_protocol}
use Rattle.machine.specs.OnFlow.{on_enter_paragraph, on_exit_paragraph, on_enter_block_quote, on_exit_block_quote, on_exit_thematic_break, on_enter_code_indented, on_enter_raw_flow, on_exit_raw_flow_fence, on_exit_raw_flow_fence_info, on_exit_raw_flow_chunk, on_exit_raw_flow}
use Rattle.machine.specs.OnHeading.{on_exit_heading_atx_sequence, on_exit_heading_atx_text, on_exit_heading_atx}
use Rattle.machine.specs.OnSetext.{on_exit_heading_setext_text, setext_rank, on_exit_heading_setext_underline_sequence}
use Rattle.machine.specs.OnList.{on_enter_list, on_exit_list, on_enter_list_item_marker, on_exit_list_item_value, on_exit_list_item}
use Rattle.machine.specs.OnTable.{on_enter_gfm_table, on_exit_gfm_table, on_enter_gfm_table_head, on_exit_gfm_table_head, on_enter_gfm_table_body, on_exit_gfm_table_body}
use Rattle.machine.specs.OnCell.{on_enter_gfm_table_cell, on_exit_gfm_table_cell, on_enter_gfm_table_row, on_exit_gfm_table_row}
use Rattle.machine.specs.OnLink.{on_enter_link, on_enter_image, on_exit_label, on_exit_label_text, on_exit_reference_string, on_enter_resource, on_enter_resource_destination_string, on_exit_resource_destination_string, on_exit_resource_title_string}
use Rattle.machine.specs.OnMedia.{on_exit_media}
use Rattle.machine.specs.OnDefinition.{on_enter_definition, on_exit_definition_label_string, on_enter_definition_destination_string, on_exit_definition_destination_string, on_exit_definition_title_string, on_exit_definition}
use Rattle.machine.specs.OnFootnote.{on_enter_gfm_footnote_call, on_exit_gfm_footnote_call, on_enter_gfm_footnote_definition, on_exit_gfm_footnote_definition_label_string, on_exit_gfm_footnote_definition_prefix, on_exit_gfm_footnote_definition}
use Rattle.machine.specs.Handlers.{Row, on, rows, command_in, command_of, handle}
use Rattle.machine_clean.specs.Clean.{Clean}
use Rattle.machine_clean.specs.Ours.{ours}
use Rattle.machine_clean.proofs.Safe.{Safe, result}
use Rattle.machine_clean.proofs.Commands.{safe}

abbrev row_ours : Row → Bool
row_ours r = ours r.enter && ours r.exit

abbrev all_ours : List Row → Bool
all_ours [] = true
all_ours (r ∷ rs) = row_ours r && all_ours rs

-- by computation, over the whole table
rows-ours : T (all_ours rows)
unfolding ours rows on_exit_data on_exit_character_reference_marker on_exit_character_reference_marker_numeric on_exit_character_reference_marker_hexadecimal on_exit_character_reference_value on_exit_line_ending on_exit_blank_line_ending on_enter_emphasis on_exit_emphasis on_enter_strong on_exit_strong on_exit_break on_enter_raw_text on_exit_raw_text on_enter_html_text on_enter_html_flow on_exit_html on_exit_html_data generate_autolink on_exit_autolink_email on_exit_autolink_protocol on_enter_paragraph on_exit_paragraph on_enter_block_quote on_exit_block_quote on_exit_thematic_break on_exit_heading_atx_sequence on_exit_heading_atx_text on_exit_heading_atx on_exit_heading_setext_text setext_rank on_exit_heading_setext_underline_sequence on_enter_code_indented on_enter_raw_flow on_exit_raw_flow_fence on_exit_raw_flow_fence_info on_exit_raw_flow_chunk on_exit_raw_flow on_enter_list on_exit_list on_enter_list_item_marker on_exit_list_item_value on_exit_list_item on_enter_gfm_table on_exit_gfm_table on_enter_gfm_table_head on_exit_gfm_table_head on_enter_gfm_table_body on_exit_gfm_table_body on_enter_gfm_table_cell on_exit_gfm_table_cell on_enter_gfm_table_row on_exit_gfm_table_row on_enter_buffer on_exit_drop on_enter_link on_enter_image on_exit_label on_exit_label_text on_exit_reference_string on_enter_resource on_enter_resource_destination_string on_exit_resource_destination_string on_exit_resource_title_string on_exit_media on_enter_definition on_exit_definition_label_string on_enter_definition_destination_string on_exit_definition_destination_string on_exit_definition_title_string on_exit_definition on_enter_gfm_footnote_call on_exit_gfm_footnote_call on_enter_gfm_footnote_definition on_exit_gfm_footnote_definition_label_string on_exit_gfm_footnote_definition_prefix on_exit_gfm_footnote_definition
rows-ours = tt

none-ours : T (row_ours (on nothing nothing))
unfolding ours
none-ours = tt

row-ours : (rs : List Row) → T (all_ours rs) → (k : ℕ) → T (row_ours (get_or rs k (on nothing nothing)))
row-ours [] t k = none-ours
row-ours (r ∷ rs) t zero = and_left (row_ours r) (all_ours rs) t
row-ours (r ∷ rs) t (suc k) = row-ours rs (and_right (row_ours r) (all_ours rs) t) k

either-ours : (enter : Bool) (r : Row) → T (row_ours r) → T (ours (command_in enter r))
either-ours true r t = and_left (ours r.enter) (ours r.exit) t
either-ours false r t = and_right (ours r.enter) (ours r.exit) t

-- whatever an event's name
pub command-ours : (t : Turn) → T (ours (command_of t))
unfolding command_of
command-ours t = either-ours (is_enter t.event) (get_or rows t.event.name (on nothing nothing)) (row-ours rows rows-ours t.event.name)

pub handled : (t : Turn) {s : State} → Clean s → Safe Clean (handle t s)
unfolding handle
handled t {s} c = safe (command_of t) (command-ours t) t s c

pub handle-keeps : (t : Turn) (s u : State) → Clean s → handle t s ≡ go u → Clean u
handle-keeps t s u c e = result Clean u (handled t c) e
