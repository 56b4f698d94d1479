-- Which handler each event goes to, by its name (RULES R10). Assumes nothing.
use Rattle.std.specs.Prelude.{Bool, true, false, List, [], ◌∷◌, get_or}
use Rattle.event.specs.Event.{is_enter}
use Rattle.machine.specs.Outcome.{Outcome}
use Rattle.machine.specs.State.{State}
use Rattle.machine.specs.Turn.{Turn}
use Rattle.machine.specs.Command.{Command, nothing, exec}
use Rattle.machine.specs.OnText.{on_exit_data, on_exit_character_reference_marker, on_exit_character_reference_marker_numeric, on_exit_character_reference_marker_hexadecimal, on_exit_character_reference_value, on_exit_line_ending, on_exit_blank_line_ending, on_enter_html_text, on_enter_html_flow, on_exit_html, on_exit_html_data, on_enter_buffer, on_exit_drop}
use Rattle.machine.specs.OnInline.{on_enter_emphasis, on_exit_emphasis, on_enter_strong, on_exit_strong, on_exit_break, on_enter_raw_text, on_exit_raw_text, on_exit_autolink_email, on_exit_autolink_protocol}
use Rattle.machine.specs.OnFlow.{on_enter_paragraph, on_exit_paragraph, on_enter_block_quote, on_exit_block_quote, on_exit_thematic_break, on_enter_code_indented, on_enter_raw_flow, on_exit_raw_flow_fence, on_exit_raw_flow_fence_info, on_exit_raw_flow_chunk, on_exit_raw_flow}
use Rattle.machine.specs.OnHeading.{on_exit_heading_atx_sequence, on_exit_heading_atx_text, on_exit_heading_atx}
use Rattle.machine.specs.OnSetext.{on_exit_heading_setext_text, on_exit_heading_setext_underline_sequence}
use Rattle.machine.specs.OnList.{on_enter_list, on_exit_list, on_enter_list_item_marker, on_exit_list_item_value, on_exit_list_item}
use Rattle.machine.specs.OnTable.{on_enter_gfm_table, on_exit_gfm_table, on_enter_gfm_table_head, on_exit_gfm_table_head, on_enter_gfm_table_body, on_exit_gfm_table_body}
use Rattle.machine.specs.OnCell.{on_enter_gfm_table_cell, on_exit_gfm_table_cell, on_enter_gfm_table_row, on_exit_gfm_table_row}
use Rattle.machine.specs.OnLink.{on_enter_link, on_enter_image, on_exit_label, on_exit_label_text, on_exit_reference_string, on_enter_resource, on_enter_resource_destination_string, on_exit_resource_destination_string, on_exit_resource_title_string}
use Rattle.machine.specs.OnMedia.{on_exit_media}
use Rattle.machine.specs.OnDefinition.{on_enter_definition, on_exit_definition_label_string, on_enter_definition_destination_string, on_exit_definition_destination_string, on_exit_definition_title_string, on_exit_definition}
use Rattle.machine.specs.OnFootnote.{on_enter_gfm_footnote_call, on_exit_gfm_footnote_call, on_enter_gfm_footnote_definition, on_exit_gfm_footnote_definition_label_string, on_exit_gfm_footnote_definition_prefix, on_exit_gfm_footnote_definition}

-- what happens at the enter and at the exit of a name
pub record Row : Type 0 where
  pub enter : Command
  pub exit : Command

abbrev pub on : Command → Command → Row
on c d = record { enter = c; exit = d }

-- by name, from 0 on
unfoldable pub rows : List Row
rows =
    on nothing nothing  -- 0 other
    ∷ on nothing nothing  -- 1 SpaceOrTab
    ∷ on nothing nothing  -- 2 BlockQuotePrefix
    ∷ on nothing on_exit_line_ending  -- 3 LineEnding
    ∷ on nothing on_exit_blank_line_ending  -- 4 BlankLineEnding
    ∷ on nothing on_exit_data  -- 5 data
    ∷ on nothing on_exit_data  -- 6 escape value
    ∷ on nothing nothing  -- 7 character reference
    ∷ on nothing on_exit_character_reference_marker  -- 8 its marker
    ∷ on nothing on_exit_character_reference_marker_numeric  -- 9 numeric marker
    ∷ on nothing on_exit_character_reference_marker_hexadecimal  -- 10 hexadecimal marker
    ∷ on nothing on_exit_character_reference_value  -- 11 its value
    ∷ on on_enter_paragraph on_exit_paragraph  -- 12 Paragraph
    ∷ on nothing on_exit_heading_atx  -- 13 atx heading
    ∷ on nothing on_exit_heading_atx_sequence  -- 14 atx sequence
    ∷ on on_enter_buffer on_exit_heading_atx_text  -- 15 atx text
    ∷ on nothing nothing  -- 16 setext heading
    ∷ on on_enter_buffer on_exit_heading_setext_text  -- 17 setext text
    ∷ on nothing on_exit_heading_setext_underline_sequence  -- 18 underline sequence
    ∷ on nothing on_exit_thematic_break  -- 19 thematic break
    ∷ on on_enter_block_quote on_exit_block_quote  -- 20 block quote
    ∷ on on_enter_list on_exit_list  -- 21 ListOrdered
    ∷ on on_enter_list on_exit_list  -- 22 unordered list
    ∷ on nothing on_exit_list_item  -- 23 item
    ∷ on nothing nothing  -- 24 ListItemPrefix
    ∷ on on_enter_list_item_marker nothing  -- 25 item marker
    ∷ on nothing on_exit_list_item_value  -- 26 item value
    ∷ on on_enter_code_indented on_exit_raw_flow  -- 27 indented code
    ∷ on on_enter_raw_flow on_exit_raw_flow  -- 28 fenced code
    ∷ on nothing on_exit_raw_flow_fence  -- 29 CodeFencedFence
    ∷ on on_enter_buffer on_exit_raw_flow_fence_info  -- 30 fence info
    ∷ on on_enter_buffer on_exit_drop  -- 31 fence meta
    ∷ on nothing on_exit_raw_flow_chunk  -- 32 code chunk
    ∷ on on_enter_raw_text on_exit_raw_text  -- 33 code text
    ∷ on nothing on_exit_data  -- 34 code text data
    ∷ on on_enter_html_flow on_exit_html  -- 35 html flow
    ∷ on nothing on_exit_html_data  -- 36 its data
    ∷ on on_enter_html_text on_exit_html  -- 37 html text
    ∷ on nothing on_exit_html_data  -- 38 its data
    ∷ on on_enter_emphasis on_exit_emphasis  -- 39 emphasis
    ∷ on on_enter_strong on_exit_strong  -- 40 strong
    ∷ on nothing on_exit_break  -- 41 break
    ∷ on nothing on_exit_break  -- 42 break
    ∷ on nothing on_exit_autolink_email  -- 43 email autolink
    ∷ on nothing on_exit_autolink_protocol  -- 44 protocol autolink
    ∷ on on_enter_link on_exit_media  -- 45 link
    ∷ on on_enter_image on_exit_media  -- 46 image
    ∷ on on_enter_buffer on_exit_label  -- 47 label
    ∷ on nothing on_exit_label_text  -- 48 label text
    ∷ on on_enter_resource on_exit_drop  -- 49 resource
    ∷ on on_enter_resource_destination_string on_exit_resource_destination_string  -- 50 resource destination
    ∷ on on_enter_buffer on_exit_resource_title_string  -- 51 resource title
    ∷ on on_enter_buffer on_exit_reference_string  -- 52 reference string
    ∷ on on_enter_definition on_exit_definition  -- 53 Definition
    ∷ on on_enter_buffer on_exit_definition_label_string  -- 54 its label
    ∷ on on_enter_definition_destination_string on_exit_definition_destination_string  -- 55 its destination
    ∷ on on_enter_buffer on_exit_definition_title_string  -- 56 its title
    ∷ on on_enter_gfm_table on_exit_gfm_table  -- 57 table
    ∷ on on_enter_gfm_table_head on_exit_gfm_table_head  -- 58 head
    ∷ on on_enter_gfm_table_body on_exit_gfm_table_body  -- 59 body
    ∷ on on_enter_gfm_table_row on_exit_gfm_table_row  -- 60 row
    ∷ on on_enter_gfm_table_cell on_exit_gfm_table_cell  -- 61 cell
    ∷ on on_enter_gfm_footnote_call on_exit_gfm_footnote_call  -- 62 footnote call
    ∷ on on_enter_gfm_footnote_definition on_exit_gfm_footnote_definition  -- 63 GfmFootnoteDefinition
    ∷ on on_enter_buffer on_exit_gfm_footnote_definition_prefix  -- 64 its prefix
    ∷ on nothing on_exit_gfm_footnote_definition_label_string  -- 65 its label
    ∷ []

abbrev pub command_in : (is_enter : Bool) → Row → Command
command_in true r = r.enter
command_in false r = r.exit

-- that of an event
unfoldable pub command_of : Turn → Command
command_of t = command_in (is_enter t.event) (get_or rows t.event.name (on nothing nothing))

unfoldable pub handle : Turn → State → Outcome State
handle t s = exec (command_of t) t s
