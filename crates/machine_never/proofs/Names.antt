-- Which names keep a slice, a marker, a definition, a footnote or a call. Assumes nothing.
use mathlib.Core.Path.{◌≡◌}
use mathlib.Core.Bool.{Bool, true, false, ◌&&◌, ◌||◌}
use mathlib.Core.List.{[], ◌∷◌}
use Prim.Native.Nat.{ℕ, ◌<◌}
use native.Mathlib.Omega.{arith}
use lib.Dec.{T, eqb}
use Rattle.lent.specs.Bytes.{one_of}
use Rattle.machine.specs.Handlers.{rows}
use Rattle.machine.specs.OnText.{on_exit_data, on_exit_character_reference_marker, on_exit_character_reference_marker_numeric, on_exit_character_reference_marker_hexadecimal, on_exit_character_reference_value, on_exit_line_ending, on_exit_blank_line_ending, on_enter_html_text, on_enter_html_flow, on_exit_html, on_exit_html_data, on_enter_buffer, on_exit_drop}
use Rattle.machine.specs.OnInline.{on_enter_emphasis, on_exit_emphasis, on_enter_strong, on_exit_strong, on_exit_break, on_enter_raw_text, on_exit_raw_text, generate_autolink, on_exit_autolink_email, on_exit_autolink_protocol}
use Rattle.machine.specs.OnFlow.{on_enter_paragraph, on_exit_paragraph, on_enter_block_quote, on_exit_block_quote, on_exit_thematic_break, on_enter_code_indented, on_enter_raw_flow, on_exit_raw_flow_fence, on_exit_raw_flow_fence_info, on_exit_raw_flow_chunk, on_exit_raw_flow}
use Rattle.machine.specs.OnHeading.{on_exit_heading_atx_sequence, on_exit_heading_atx_text, on_exit_heading_atx}
use Rattle.machine.specs.OnSetext.{on_exit_heading_setext_text, setext_rank, on_exit_heading_setext_underline_sequence}
use Rattle.machine.specs.OnList.{on_enter_list, on_exit_list, on_enter_list_item_marker, on_exit_list_item_value, on_exit_list_item}
use Rattle.machine.specs.OnTable.{on_enter_gfm_table, on_exit_gfm_table, on_enter_gfm_table_head, on_exit_gfm_table_head, on_enter_gfm_table_body, on_exit_gfm_table_body}
use Rattle.machine.specs.OnCell.{on_enter_gfm_table_cell, on_exit_gfm_table_cell, on_enter_gfm_table_row, on_exit_gfm_table_row}
use Rattle.machine.specs.OnLink.{on_enter_link, on_enter_image, on_exit_label, on_exit_label_text, on_exit_reference_string, on_enter_resource, on_enter_resource_destination_string, on_exit_resource_destination_string, on_exit_resource_title_string}
use Rattle.machine.specs.OnMedia.{on_exit_media}
use Rattle.machine.specs.OnDefinition.{on_enter_definition, on_exit_definition_label_string, on_enter_definition_destination_string, on_exit_definition_destination_string, on_exit_definition_title_string, on_exit_definition}
use Rattle.machine.specs.OnFootnote.{on_enter_gfm_footnote_call, on_exit_gfm_footnote_call, on_enter_gfm_footnote_definition, on_exit_gfm_footnote_definition_label_string, on_exit_gfm_footnote_definition_prefix, on_exit_gfm_footnote_definition}
use Rattle.machine_shape.specs.Kinds.{below}
use Rattle.machine_shape.proofs.Says.{both}
use Rattle.machine_shape.proofs.Test.{computed}
use Rattle.machine_never.specs.Values.{Effect, pushes, pops, names, refers, leads, seeks, defines, labels, notes, calls, unmarks, marks, effects_of}
use Rattle.machine_never.specs.Ghost.{all_effects}
use Rattle.machine_never.proofs.Inert.{enter_effects, exit_effects}
use Rattle.check_nesting.specs.Grammar.{name_count}

-- ---- effects that keep no slice; no marker; no definition; no footnote and no footnote's label; no call

abbrev pub unspanned : Effect → Bool
unspanned pushes = true
unspanned pops = true
unspanned names = false
unspanned refers = false
unspanned leads = true
unspanned seeks = true
unspanned defines = true
unspanned labels = false
unspanned notes = true
unspanned calls = true
unspanned unmarks = true
unspanned (marks m) = true

abbrev pub unmarked : Effect → Bool
unmarked pushes = true
unmarked pops = true
unmarked names = true
unmarked refers = true
unmarked leads = true
unmarked seeks = true
unmarked defines = true
unmarked labels = true
unmarked notes = true
unmarked calls = true
unmarked unmarks = true
unmarked (marks m) = false

abbrev pub undefining : Effect → Bool
undefining pushes = true
undefining pops = true
undefining names = true
undefining refers = true
undefining leads = true
undefining seeks = true
undefining defines = false
undefining labels = true
undefining notes = true
undefining calls = true
undefining unmarks = true
undefining (marks m) = true

abbrev pub unnoting : Effect → Bool
unnoting pushes = true
unnoting pops = true
unnoting names = true
unnoting refers = true
unnoting leads = true
unnoting seeks = true
unnoting defines = true
unnoting labels = false
unnoting notes = false
unnoting calls = true
unnoting unmarks = true
unnoting (marks m) = true

abbrev pub uncalling : Effect → Bool
uncalling pushes = true
uncalling pops = true
uncalling names = true
uncalling refers = true
uncalling leads = true
uncalling seeks = true
uncalling defines = true
uncalling labels = true
uncalling notes = true
uncalling calls = false
uncalling unmarks = true
uncalling (marks m) = true

all-enters : T (below name_count (λ n. all_effects unspanned (enter_effects n) && (all_effects unmarked (enter_effects n) && (all_effects undefining (enter_effects n) && (all_effects unnoting (enter_effects n) && all_effects uncalling (enter_effects n))))))
unfolding effects_of rows on_exit_data on_exit_character_reference_marker on_exit_character_reference_marker_numeric on_exit_character_reference_marker_hexadecimal on_exit_character_reference_value on_exit_line_ending on_exit_blank_line_ending on_enter_emphasis on_exit_emphasis on_enter_strong on_exit_strong on_exit_break on_enter_raw_text on_exit_raw_text on_enter_html_text on_enter_html_flow on_exit_html on_exit_html_data generate_autolink on_exit_autolink_email on_exit_autolink_protocol on_enter_paragraph on_exit_paragraph on_enter_block_quote on_exit_block_quote on_exit_thematic_break on_exit_heading_atx_sequence on_exit_heading_atx_text on_exit_heading_atx on_exit_heading_setext_text setext_rank on_exit_heading_setext_underline_sequence on_enter_code_indented on_enter_raw_flow on_exit_raw_flow_fence on_exit_raw_flow_fence_info on_exit_raw_flow_chunk on_exit_raw_flow on_enter_list on_exit_list on_enter_list_item_marker on_exit_list_item_value on_exit_list_item on_enter_gfm_table on_exit_gfm_table on_enter_gfm_table_head on_exit_gfm_table_head on_enter_gfm_table_body on_exit_gfm_table_body on_enter_gfm_table_cell on_exit_gfm_table_cell on_enter_gfm_table_row on_exit_gfm_table_row on_enter_buffer on_exit_drop on_enter_link on_enter_image on_exit_label on_exit_label_text on_exit_reference_string on_enter_resource on_enter_resource_destination_string on_exit_resource_destination_string on_exit_resource_title_string on_exit_media on_enter_definition on_exit_definition_label_string on_enter_definition_destination_string on_exit_definition_destination_string on_exit_definition_title_string on_exit_definition on_enter_gfm_footnote_call on_exit_gfm_footnote_call on_enter_gfm_footnote_definition on_exit_gfm_footnote_definition_label_string on_exit_gfm_footnote_definition_prefix on_exit_gfm_footnote_definition
all-enters = tt

all-exits : T (below name_count (λ n. (one_of (8 ∷ 9 ∷ 10 ∷ []) n || all_effects unmarked (exit_effects n)) && ((eqb n 53 || all_effects undefining (exit_effects n)) && ((one_of (63 ∷ 65 ∷ []) n || all_effects unnoting (exit_effects n)) && (eqb n 62 || all_effects uncalling (exit_effects n))))))
unfolding effects_of rows on_exit_data on_exit_character_reference_marker on_exit_character_reference_marker_numeric on_exit_character_reference_marker_hexadecimal on_exit_character_reference_value on_exit_line_ending on_exit_blank_line_ending on_enter_emphasis on_exit_emphasis on_enter_strong on_exit_strong on_exit_break on_enter_raw_text on_exit_raw_text on_enter_html_text on_enter_html_flow on_exit_html on_exit_html_data generate_autolink on_exit_autolink_email on_exit_autolink_protocol on_enter_paragraph on_exit_paragraph on_enter_block_quote on_exit_block_quote on_exit_thematic_break on_exit_heading_atx_sequence on_exit_heading_atx_text on_exit_heading_atx on_exit_heading_setext_text setext_rank on_exit_heading_setext_underline_sequence on_enter_code_indented on_enter_raw_flow on_exit_raw_flow_fence on_exit_raw_flow_fence_info on_exit_raw_flow_chunk on_exit_raw_flow on_enter_list on_exit_list on_enter_list_item_marker on_exit_list_item_value on_exit_list_item on_enter_gfm_table on_exit_gfm_table on_enter_gfm_table_head on_exit_gfm_table_head on_enter_gfm_table_body on_exit_gfm_table_body on_enter_gfm_table_cell on_exit_gfm_table_cell on_enter_gfm_table_row on_exit_gfm_table_row on_enter_buffer on_exit_drop on_enter_link on_enter_image on_exit_label on_exit_label_text on_exit_reference_string on_enter_resource on_enter_resource_destination_string on_exit_resource_destination_string on_exit_resource_title_string on_exit_media on_enter_definition on_exit_definition_label_string on_enter_definition_destination_string on_exit_definition_destination_string on_exit_definition_title_string on_exit_definition on_enter_gfm_footnote_call on_exit_gfm_footnote_call on_enter_gfm_footnote_definition on_exit_gfm_footnote_definition_label_string on_exit_gfm_footnote_definition_prefix on_exit_gfm_footnote_definition
all-exits = tt

-- what an enter of a name does
pub record Enters (n : ℕ) : Type 0 where
  pub spans : T (all_effects unspanned (enter_effects n))
  pub marked : T (all_effects unmarked (enter_effects n))
  pub defines-not : T (all_effects undefining (enter_effects n))
  pub notes-not : T (all_effects unnoting (enter_effects n))
  pub calls-not : T (all_effects uncalling (enter_effects n))

pub enters : (n : ℕ) → n < name_count → Enters n
enters n h =
    let p = computed (λ n. all_effects unspanned (enter_effects n) && (all_effects unmarked (enter_effects n) && (all_effects undefining (enter_effects n) && (all_effects unnoting (enter_effects n) && all_effects uncalling (enter_effects n))))) name_count all-enters n h in
    let a = both (all_effects unspanned (enter_effects n)) (all_effects unmarked (enter_effects n) && (all_effects undefining (enter_effects n) && (all_effects unnoting (enter_effects n) && all_effects uncalling (enter_effects n)))) p in
    let b = both (all_effects unmarked (enter_effects n)) (all_effects undefining (enter_effects n) && (all_effects unnoting (enter_effects n) && all_effects uncalling (enter_effects n))) a.1 in
    let c = both (all_effects undefining (enter_effects n)) (all_effects unnoting (enter_effects n) && all_effects uncalling (enter_effects n)) b.1 in
    let d = both (all_effects unnoting (enter_effects n)) (all_effects uncalling (enter_effects n)) c.1 in
    record { spans = a.0; marked = b.0; defines-not = c.0; notes-not = d.0; calls-not = d.1 }

-- and an exit, unless it is one that does
pub record Leaves (n : ℕ) : Type 0 where
  pub marked : one_of (8 ∷ 9 ∷ 10 ∷ []) n ≡ false → T (all_effects unmarked (exit_effects n))
  pub defines-not : eqb n 53 ≡ false → T (all_effects undefining (exit_effects n))
  pub notes-not : one_of (63 ∷ 65 ∷ []) n ≡ false → T (all_effects unnoting (exit_effects n))
  pub calls-not : eqb n 62 ≡ false → T (all_effects uncalling (exit_effects n))

unless : (x y : Bool) → T (x || y) → x ≡ false → T y
unless true y t e = let z : ◌≡◌ {A = ℕ} 0 1 = cc in absurd (omega arith)
unless false y t e = t

pub leaves : (n : ℕ) → n < name_count → Leaves n
leaves n h =
    let p = computed (λ n. (one_of (8 ∷ 9 ∷ 10 ∷ []) n || all_effects unmarked (exit_effects n)) && ((eqb n 53 || all_effects undefining (exit_effects n)) && ((one_of (63 ∷ 65 ∷ []) n || all_effects unnoting (exit_effects n)) && (eqb n 62 || all_effects uncalling (exit_effects n))))) name_count all-exits n h in
    let a = both (one_of (8 ∷ 9 ∷ 10 ∷ []) n || all_effects unmarked (exit_effects n)) ((eqb n 53 || all_effects undefining (exit_effects n)) && ((one_of (63 ∷ 65 ∷ []) n || all_effects unnoting (exit_effects n)) && (eqb n 62 || all_effects uncalling (exit_effects n)))) p in
    let b = both (eqb n 53 || all_effects undefining (exit_effects n)) ((one_of (63 ∷ 65 ∷ []) n || all_effects unnoting (exit_effects n)) && (eqb n 62 || all_effects uncalling (exit_effects n))) a.1 in
    let c = both (one_of (63 ∷ 65 ∷ []) n || all_effects unnoting (exit_effects n)) (eqb n 62 || all_effects uncalling (exit_effects n)) b.1 in
    record {
      marked = λ e. unless (one_of (8 ∷ 9 ∷ 10 ∷ []) n) (all_effects unmarked (exit_effects n)) a.0 e;
      defines-not = λ e. unless (eqb n 53) (all_effects undefining (exit_effects n)) b.0 e;
      notes-not = λ e. unless (one_of (63 ∷ 65 ∷ []) n) (all_effects unnoting (exit_effects n)) c.0 e;
      calls-not = λ e. unless (eqb n 62) (all_effects uncalling (exit_effects n)) c.1 e;
    }
