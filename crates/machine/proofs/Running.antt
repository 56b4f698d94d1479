-- For computed examples: to unfold `running` is to unfold the whole definition. Made by tools/machine_pages. Assumes nothing.
use Prim.Native.Nat.{ℕ}
use Rattle.utf8.specs.Utf8.{after_first, length_of, is_utf8, inside, char_of}
use Rattle.encode.specs.Encode.{encode_byte, encode_of}
use Rattle.sanitize_uri.specs.Url.{two_alnum, stays, hex_upper, percent, url_byte, normalize_of, sanitize_of}
use Rattle.sanitize_uri.specs.Protocols.{colon_from, colon_of, is_allowed, sanitize_with_protocols_of}
use Rattle.normalize_identifier.specs.Identity.{blank, folded, identity_from, identity_of, blanks, left_at, spelled}
use Rattle.normalize_identifier.specs.Search.{parts, labels_of, first_from, first_same}
use Rattle.character_reference.specs.Names.{names}
use Rattle.character_reference.specs.Reference.{written_of, is_replaced, code_of, digit_value, numeral_of, lookup, names_of, named_of, value_of, reference_for}
use Rattle.event.specs.Event.{event_of, event_at, events_in, events_of, record_of, alignments_from, alignments_of}
use Rattle.machine.specs.State.{start}
use Rattle.machine.specs.Buffers.{push, push_encoded, open_capture, take_capture, end_line, ending_if_needed, end_line_if_needed}
use Rattle.machine.specs.Turn.{slice_of, as_str, str_of, url_of, look_back}
use Rattle.machine.specs.Text.{digits_from, decimal, start_of, unescape_pipes, trim_code, code_of as Text-code_of}
use Rattle.machine.specs.Media.{newest_media, on_newest, leave_alt, seek, part_text, define}
use Rattle.machine.specs.Footnote.{address_of, keep, count_at, times_at, call_text, call_note}
use Rattle.machine.specs.Section.{body_end, ends_paragraph, backreference, backreferences, push_body, footnote_item, footnote_items, footnote_section}
use Rattle.machine.specs.Test.{test}
use Rattle.machine.specs.Command.{exec}
use Rattle.machine.specs.OnText.{on_exit_data, on_exit_character_reference_marker, on_exit_character_reference_marker_numeric, on_exit_character_reference_marker_hexadecimal, on_exit_character_reference_value, on_exit_line_ending, on_exit_blank_line_ending, on_enter_html_text, on_enter_html_flow, on_exit_html, on_exit_html_data, on_enter_buffer, on_exit_drop}
use Rattle.machine.specs.OnInline.{on_enter_emphasis, on_exit_emphasis, on_enter_strong, on_exit_strong, on_exit_break, on_enter_raw_text, on_exit_raw_text, generate_autolink, on_exit_autolink_email, on_exit_autolink_protocol}
use Rattle.machine.specs.OnFlow.{on_enter_paragraph, on_exit_paragraph, on_enter_block_quote, on_exit_block_quote, on_exit_thematic_break, on_enter_code_indented, on_enter_raw_flow, on_exit_raw_flow_fence, on_exit_raw_flow_fence_info, on_exit_raw_flow_chunk, on_exit_raw_flow}
use Rattle.machine.specs.OnHeading.{on_exit_heading_atx_sequence, on_exit_heading_atx_text, on_exit_heading_atx}
use Rattle.machine.specs.OnSetext.{on_exit_heading_setext_text, setext_rank, on_exit_heading_setext_underline_sequence}
use Rattle.machine.specs.OnList.{on_enter_list, on_exit_list, on_enter_list_item_marker, on_exit_list_item_value, on_exit_list_item}
use Rattle.machine.specs.OnTable.{on_enter_gfm_table, on_exit_gfm_table, on_enter_gfm_table_head, on_exit_gfm_table_head, on_enter_gfm_table_body, on_exit_gfm_table_body}
use Rattle.machine.specs.OnCell.{on_enter_gfm_table_cell, on_exit_gfm_table_cell, on_enter_gfm_table_row, on_exit_gfm_table_row}
use Rattle.machine.specs.OnMedia.{on_exit_media}
use Rattle.machine.specs.OnLink.{on_enter_link, on_enter_image, on_exit_label, on_exit_label_text, on_exit_reference_string, on_enter_resource, on_enter_resource_destination_string, on_exit_resource_destination_string, on_exit_resource_title_string}
use Rattle.machine.specs.OnDefinition.{on_enter_definition, on_exit_definition_label_string, on_enter_definition_destination_string, on_exit_definition_destination_string, on_exit_definition_title_string, on_exit_definition}
use Rattle.machine.specs.OnFootnote.{on_enter_gfm_footnote_call, on_exit_gfm_footnote_call, on_enter_gfm_footnote_definition, on_exit_gfm_footnote_definition_label_string, on_exit_gfm_footnote_definition_prefix, on_exit_gfm_footnote_definition}
use Rattle.machine.specs.Handlers.{rows, command_of, handle}
use Rattle.machine.specs.Totals.{captured, held, kept, over}
use Rattle.machine.specs.Run.{ending_of, pass_from, are_begun, turns_of, finish, run_from, run_with, run_of, machine_of}

unfoldable pub running : ℕ
unfolding after_first length_of is_utf8 inside char_of encode_byte encode_of two_alnum stays hex_upper percent url_byte normalize_of sanitize_of colon_from colon_of is_allowed sanitize_with_protocols_of blank folded identity_from identity_of blanks left_at spelled parts labels_of first_from first_same names written_of is_replaced code_of digit_value numeral_of lookup names_of named_of value_of reference_for event_of event_at events_in events_of record_of alignments_from alignments_of start push push_encoded open_capture take_capture end_line ending_if_needed end_line_if_needed slice_of as_str str_of url_of look_back digits_from decimal start_of unescape_pipes trim_code Text-code_of newest_media on_newest leave_alt seek part_text define address_of keep count_at times_at call_text call_note body_end ends_paragraph backreference backreferences push_body footnote_item footnote_items footnote_section test exec on_exit_data on_exit_character_reference_marker on_exit_character_reference_marker_numeric on_exit_character_reference_marker_hexadecimal on_exit_character_reference_value on_exit_line_ending on_exit_blank_line_ending on_enter_html_text on_enter_html_flow on_exit_html on_exit_html_data on_enter_buffer on_exit_drop on_enter_emphasis on_exit_emphasis on_enter_strong on_exit_strong on_exit_break on_enter_raw_text on_exit_raw_text generate_autolink on_exit_autolink_email on_exit_autolink_protocol on_enter_paragraph on_exit_paragraph on_enter_block_quote on_exit_block_quote on_exit_thematic_break on_enter_code_indented on_enter_raw_flow on_exit_raw_flow_fence on_exit_raw_flow_fence_info on_exit_raw_flow_chunk on_exit_raw_flow on_exit_heading_atx_sequence on_exit_heading_atx_text on_exit_heading_atx on_exit_heading_setext_text setext_rank on_exit_heading_setext_underline_sequence on_enter_list on_exit_list on_enter_list_item_marker on_exit_list_item_value on_exit_list_item on_enter_gfm_table on_exit_gfm_table on_enter_gfm_table_head on_exit_gfm_table_head on_enter_gfm_table_body on_exit_gfm_table_body on_enter_gfm_table_cell on_exit_gfm_table_cell on_enter_gfm_table_row on_exit_gfm_table_row on_exit_media on_enter_link on_enter_image on_exit_label on_exit_label_text on_exit_reference_string on_enter_resource on_enter_resource_destination_string on_exit_resource_destination_string on_exit_resource_title_string on_enter_definition on_exit_definition_label_string on_enter_definition_destination_string on_exit_definition_destination_string on_exit_definition_title_string on_exit_definition on_enter_gfm_footnote_call on_exit_gfm_footnote_call on_enter_gfm_footnote_definition on_exit_gfm_footnote_definition_label_string on_exit_gfm_footnote_definition_prefix on_exit_gfm_footnote_definition rows command_of handle captured held kept over ending_of pass_from are_begun turns_of finish run_from run_with run_of machine_of
running = 0
