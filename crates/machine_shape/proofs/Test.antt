-- The test passes: all names, every rule of nesting, both ways through each handler. Assumes nothing.
use mathlib.Core.Path.{◌≡◌, refl, sym, subst}
use mathlib.Core.Bool.{Bool, true, false, not, ◌||◌}
use mathlib.Core.Logic.{⊎_elim}
use Prim.Native.Nat.{ℕ, zero, suc, ◌-◌, ◌≤◌, ◌<◌}
use native.Mathlib.Nat.{le_of_suc-le-suc, not-suc-le-zero, eq-or-lt_of_le}
use native.Mathlib.Omega.{arith}
use lib.Dec.{T, eqb, ltb, eqb→eq}
use borrow.Author.Tests.{ltb-true, ltb-false, le-ltb, eq-eqb}
use lib.ListN.{get_or}
use Rattle.check_nesting.specs.Grammar.{name_of, holds, rules, name_count, second_names, kind_count}
use Rattle.machine.specs.Handlers.{rows}
use Rattle.machine.specs.OnText.{on_exit_data, on_exit_character_reference_marker, on_exit_character_reference_marker_numeric, on_exit_character_reference_marker_hexadecimal, on_exit_character_reference_value, on_exit_line_ending, on_exit_blank_line_ending, on_enter_html_text, on_enter_html_flow, on_exit_html, on_exit_html_data, on_enter_buffer, on_exit_drop}
use Rattle.machine.specs.OnInline.{on_enter_emphasis, on_exit_emphasis, on_enter_strong, on_exit_strong, on_exit_break, on_enter_raw_text, on_exit_raw_text, generate_autolink, on_exit_autolink_email, on_exit_autolink_protocol}
use Rattle.machine.specs.OnFlow.{on_enter_paragraph, on_exit_paragraph, on_enter_block_quote, on_exit_block_quote, on_exit_thematic_break, on_enter_code_indented, on_enter_raw_flow, on_exit_raw_flow_fence, on_exit_raw_flow_fence_info, on_exit_raw_flow_chunk, on_exit_raw_flow}
use Rattle.machine.specs.OnHeading.{on_exit_heading_atx_sequence, on_exit_heading_atx_text, on_exit_heading_atx}
use Rattle.machine.specs.OnSetext.{on_exit_heading_setext_text, setext_rank, on_exit_heading_setext_underline_sequence}
use Rattle.machine.specs.OnList.{on_enter_list, on_exit_list, on_enter_list_item_marker, on_exit_list_item_value, on_exit_list_item}
use Rattle.machine.specs.OnTable.{on_enter_gfm_table, on_exit_gfm_table, on_enter_gfm_table_head, on_exit_gfm_table_head, on_enter_gfm_table_body, on_exit_gfm_table_body}
use Rattle.machine.specs.OnCell.{on_enter_gfm_table_cell, on_exit_gfm_table_cell, on_enter_gfm_table_row, on_exit_gfm_table_row}
use Rattle.machine.specs.OnLink.{on_enter_link, on_enter_image, on_exit_label, on_exit_label_text, on_exit_reference_string, on_enter_resource, on_enter_resource_destination_string, on_exit_resource_destination_string, on_exit_resource_title_string}
use Rattle.machine.specs.OnMedia.{on_exit_media}
use Rattle.machine.specs.OnDefinition.{on_enter_definition, on_exit_definition_label_string, on_enter_definition_destination_string, on_exit_definition_destination_string, on_exit_definition_title_string, on_exit_definition}
use Rattle.machine.specs.OnFootnote.{on_enter_gfm_footnote_call, on_exit_gfm_footnote_call, on_enter_gfm_footnote_definition, on_exit_gfm_footnote_definition_label_string, on_exit_gfm_footnote_definition_prefix, on_exit_gfm_footnote_definition}
use Rattle.check_rules.proofs.Before.{clash}
use Rattle.machine_shape.specs.Shape.{idle, covers}
use Rattle.machine_shape.specs.Acts.{act}
use Rattle.machine_shape.specs.Fits.{ways, goes, good}
use Rattle.machine_shape.specs.Kinds.{lines, contract_of, row_of, fits, below, whole_fits, quiet_fits}
use Rattle.machine_shape.proofs.Says.{both}

all_fit : T (below kind_count fits)
unfolding fits whole_fits quiet_fits contract_of lines goes good ways act holds rules rows on_exit_data on_exit_character_reference_marker on_exit_character_reference_marker_numeric on_exit_character_reference_marker_hexadecimal on_exit_character_reference_value on_exit_line_ending on_exit_blank_line_ending on_enter_emphasis on_exit_emphasis on_enter_strong on_exit_strong on_exit_break on_enter_raw_text on_exit_raw_text on_enter_html_text on_enter_html_flow on_exit_html on_exit_html_data generate_autolink on_exit_autolink_email on_exit_autolink_protocol on_enter_paragraph on_exit_paragraph on_enter_block_quote on_exit_block_quote on_exit_thematic_break on_exit_heading_atx_sequence on_exit_heading_atx_text on_exit_heading_atx on_exit_heading_setext_text setext_rank on_exit_heading_setext_underline_sequence on_enter_code_indented on_enter_raw_flow on_exit_raw_flow_fence on_exit_raw_flow_fence_info on_exit_raw_flow_chunk on_exit_raw_flow on_enter_list on_exit_list on_enter_list_item_marker on_exit_list_item_value on_exit_list_item on_enter_gfm_table on_exit_gfm_table on_enter_gfm_table_head on_exit_gfm_table_head on_enter_gfm_table_body on_exit_gfm_table_body on_enter_gfm_table_cell on_exit_gfm_table_cell on_enter_gfm_table_row on_exit_gfm_table_row on_enter_buffer on_exit_drop on_enter_link on_enter_image on_exit_label on_exit_label_text on_exit_reference_string on_enter_resource on_enter_resource_destination_string on_exit_resource_destination_string on_exit_resource_title_string on_exit_media on_enter_definition on_exit_definition_label_string on_enter_definition_destination_string on_exit_definition_destination_string on_exit_definition_title_string on_exit_definition on_enter_gfm_footnote_call on_exit_gfm_footnote_call on_enter_gfm_footnote_definition on_exit_gfm_footnote_definition_label_string on_exit_gfm_footnote_definition_prefix on_exit_gfm_footnote_definition
all_fit = tt

all_quiet : T (below 5 quiet_fits)
unfolding fits whole_fits quiet_fits contract_of lines goes good ways act holds rules rows on_exit_data on_exit_character_reference_marker on_exit_character_reference_marker_numeric on_exit_character_reference_marker_hexadecimal on_exit_character_reference_value on_exit_line_ending on_exit_blank_line_ending on_enter_emphasis on_exit_emphasis on_enter_strong on_exit_strong on_exit_break on_enter_raw_text on_exit_raw_text on_enter_html_text on_enter_html_flow on_exit_html on_exit_html_data generate_autolink on_exit_autolink_email on_exit_autolink_protocol on_enter_paragraph on_exit_paragraph on_enter_block_quote on_exit_block_quote on_exit_thematic_break on_exit_heading_atx_sequence on_exit_heading_atx_text on_exit_heading_atx on_exit_heading_setext_text setext_rank on_exit_heading_setext_underline_sequence on_enter_code_indented on_enter_raw_flow on_exit_raw_flow_fence on_exit_raw_flow_fence_info on_exit_raw_flow_chunk on_exit_raw_flow on_enter_list on_exit_list on_enter_list_item_marker on_exit_list_item_value on_exit_list_item on_enter_gfm_table on_exit_gfm_table on_enter_gfm_table_head on_exit_gfm_table_head on_enter_gfm_table_body on_exit_gfm_table_body on_enter_gfm_table_cell on_exit_gfm_table_cell on_enter_gfm_table_row on_exit_gfm_table_row on_enter_buffer on_exit_drop on_enter_link on_enter_image on_exit_label on_exit_label_text on_exit_reference_string on_enter_resource on_enter_resource_destination_string on_exit_resource_destination_string on_exit_resource_title_string on_exit_media on_enter_definition on_exit_definition_label_string on_enter_definition_destination_string on_exit_definition_destination_string on_exit_definition_title_string on_exit_definition on_enter_gfm_footnote_call on_exit_gfm_footnote_call on_enter_gfm_footnote_definition on_exit_gfm_footnote_definition_label_string on_exit_gfm_footnote_definition_prefix on_exit_gfm_footnote_definition
all_quiet = tt

pub whole-fits : T whole_fits
unfolding fits whole_fits quiet_fits contract_of lines goes good ways act holds rules rows on_exit_data on_exit_character_reference_marker on_exit_character_reference_marker_numeric on_exit_character_reference_marker_hexadecimal on_exit_character_reference_value on_exit_line_ending on_exit_blank_line_ending on_enter_emphasis on_exit_emphasis on_enter_strong on_exit_strong on_exit_break on_enter_raw_text on_exit_raw_text on_enter_html_text on_enter_html_flow on_exit_html on_exit_html_data generate_autolink on_exit_autolink_email on_exit_autolink_protocol on_enter_paragraph on_exit_paragraph on_enter_block_quote on_exit_block_quote on_exit_thematic_break on_exit_heading_atx_sequence on_exit_heading_atx_text on_exit_heading_atx on_exit_heading_setext_text setext_rank on_exit_heading_setext_underline_sequence on_enter_code_indented on_enter_raw_flow on_exit_raw_flow_fence on_exit_raw_flow_fence_info on_exit_raw_flow_chunk on_exit_raw_flow on_enter_list on_exit_list on_enter_list_item_marker on_exit_list_item_value on_exit_list_item on_enter_gfm_table on_exit_gfm_table on_enter_gfm_table_head on_exit_gfm_table_head on_enter_gfm_table_body on_exit_gfm_table_body on_enter_gfm_table_cell on_exit_gfm_table_cell on_enter_gfm_table_row on_exit_gfm_table_row on_enter_buffer on_exit_drop on_enter_link on_enter_image on_exit_label on_exit_label_text on_exit_reference_string on_enter_resource on_enter_resource_destination_string on_exit_resource_destination_string on_exit_resource_title_string on_exit_media on_enter_definition on_exit_definition_label_string on_enter_definition_destination_string on_exit_definition_destination_string on_exit_definition_title_string on_exit_definition on_enter_gfm_footnote_call on_exit_gfm_footnote_call on_enter_gfm_footnote_definition on_exit_gfm_footnote_definition_label_string on_exit_gfm_footnote_definition_prefix on_exit_gfm_footnote_definition
whole-fits = tt

-- a definition that is jumped over has done what its contract says
pub definition-idle : T (covers idle (contract_of 53).does)
unfolding contract_of lines
definition-idle = tt

pub computed : (f : ℕ → Bool) (n : ℕ) → T (below n f) → (k : ℕ) → k < n → T (f k)
computed f zero t k h = absurd (not-suc-le-zero h)
computed f (suc n) t k h =
    let p = both (f n) (below n f) t in
    ⊎_elim (λ e. subst (λ (m : ℕ). T (f m)) (sym e) p.0) (λ l. computed f n p.1 k l) (eq-or-lt_of_le (le_of_suc-le-suc h))

-- a kind has a name
no_name : (i : ℕ) → get_or {A = ℕ} second_names (suc (suc (suc (suc i)))) 0 ≡ 0
no_name i = refl

pub kind-below : (k : ℕ) → 5 ≤ name_of k → k < kind_count
kind-below k h = at (ltb k kind_count) refl
  where
    at : (x : Bool) → ltb k kind_count ≡ x → k < kind_count
    at true e = ltb-true k kind_count e
    at false e =
        let l = ltb-false k kind_count e in
        let i : k - name_count ≡ suc (suc (suc (suc (k - kind_count)))) = omega arith in
        let n : name_of k ≡ 0 = rw (le-ltb k name_count (omega arith), i) (no_name (k - kind_count)) in
        absurd (omega arith)

-- and one kind has the name of definitions
others : T (below kind_count (λ k. not (eqb (name_of k) 53) || eqb k 53))
others = tt

pub kind-named : (k : ℕ) → name_of k ≡ 53 → k ≡ 53
kind-named k h = eqb→eq k 53 (at (eqb (name_of k) 53) (eq-eqb (name_of k) 53 h) (computed (λ k. not (eqb (name_of k) 53) || eqb k 53) kind_count others k (kind-below k (omega arith))))
  where
    at : (x : Bool) → x ≡ true → T (not x || eqb k 53) → T (eqb k 53)
    at true e t = t
    at false e t = clash e refl

pub kind_fits : (k : ℕ) → 5 ≤ name_of k → T (fits k)
kind_fits k h = computed fits kind_count all_fit k (kind-below k h)

pub quiet-fits : (n : ℕ) → n ≤ 4 → T (goes 0 (row_of n).enter idle (λ x. covers x idle)) × T (goes 0 (row_of n).exit idle (λ x. covers x idle))
unfolding quiet_fits
quiet-fits n h = both (goes 0 (row_of n).enter idle (λ x. covers x idle)) (goes 0 (row_of n).exit idle (λ x. covers x idle)) (computed quiet_fits 5 all_quiet n (omega arith))
