-- What the values of a turn have to be, by the name of its event. Assumes nothing.
use mathlib.Core.Path.{◌≡◌, sym}
use mathlib.Core.Bool.{Bool, true, false, ◌||◌}
use mathlib.Core.List.{[], ◌∷◌}
use Prim.Native.Nat.{ℕ, ◌<◌}
use native.Mathlib.Omega.{arith}
use lib.Dec.{T}
use Rattle.lent.specs.Bytes.{one_of}
use Rattle.machine.specs.Outcome.{go}
use Rattle.machine.specs.State.{State}
use Rattle.machine.specs.Set.{set_captures, set_flag, alt}
use Rattle.machine.specs.Turn.{Turn}
use Rattle.machine.specs.Media.{any_image, leave_alt, label, destination, title}
use Rattle.machine.specs.Handlers.{rows}
use Rattle.machine.specs.OnText.{on_exit_data, on_exit_character_reference_marker, on_exit_character_reference_marker_numeric, on_exit_character_reference_marker_hexadecimal, on_exit_character_reference_value, on_exit_line_ending, on_exit_blank_line_ending, on_enter_html_text, on_enter_html_flow, on_exit_html, on_exit_html_data, on_enter_buffer, on_exit_drop}
use Rattle.machine.specs.OnInline.{on_enter_emphasis, on_exit_emphasis, on_enter_strong, on_exit_strong, on_exit_break, on_enter_raw_text, on_exit_raw_text, generate_autolink, on_exit_autolink_email, on_exit_autolink_protocol}
use Rattle.machine.specs.OnFlow.{on_enter_paragraph, on_exit_paragraph, on_enter_block_quote, on_exit_block_quote, on_exit_thematic_break, on_enter_code_indented, on_enter_raw_flow, on_exit_raw_flow_fence, on_exit_raw_flow_fence_info, on_exit_raw_flow_chunk, on_exit_raw_flow}
use Rattle.machine.specs.OnHeading.{on_exit_heading_atx_sequence, on_exit_heading_atx_text, on_exit_heading_atx}
use Rattle.machine.specs.OnSetext.{on_exit_heading_setext_text, setext_rank, on_exit_heading_setext_underline_sequence}
use Rattle.machine.specs.OnList.{on_enter_list, on_exit_list, on_enter_list_item_marker, on_exit_list_item_value, on_exit_list_item}
use Rattle.machine.specs.OnTable.{on_enter_gfm_table, on_exit_gfm_table, on_enter_gfm_table_head, on_exit_gfm_table_head, on_enter_gfm_table_body, on_exit_gfm_table_body}
use Rattle.machine.specs.OnCell.{on_enter_gfm_table_cell, on_exit_gfm_table_cell, on_enter_gfm_table_row, on_exit_gfm_table_row}
use Rattle.machine.specs.OnLink.{on_enter_link, on_enter_image, on_exit_label, on_exit_label_text, on_exit_reference_string, on_enter_resource, on_enter_resource_destination_string, on_exit_resource_destination_string, on_exit_resource_title_string}
use Rattle.machine.specs.OnMedia.{on_exit_media}
use Rattle.machine.specs.OnDefinition.{on_enter_definition, on_exit_definition_label_string, on_enter_definition_destination_string, on_exit_definition_destination_string, on_exit_definition_title_string, on_exit_definition}
use Rattle.machine.specs.OnFootnote.{on_enter_gfm_footnote_call, on_exit_gfm_footnote_call, on_enter_gfm_footnote_definition, on_exit_gfm_footnote_definition_label_string, on_exit_gfm_footnote_definition_prefix, on_exit_gfm_footnote_definition}
use Rattle.machine.specs.Test.{is, is_image}
use Rattle.machine.specs.Words as C
use Rattle.machine.specs.Command.{Command, ◌▸◌, whether, exec}
use Rattle.machine.specs.Words.{put, reference, drop, resume_code, close_media, leave_image, seek_definition, show, when, unless, tag}
use Rattle.machine_bounded.specs.Within.{within}
use Rattle.machine_clean.proofs.Within.{within-exec}
use Rattle.machine_shape.specs.Kinds.{row_of, below}
use Rattle.machine_shape.specs.Right.{Asks, Right, Sought, Defines, Notes, Calls}
use Rattle.machine_shape.proofs.Test.{computed}
use Rattle.machine_never.specs.Needs as needs
use Rattle.machine_never.specs.Needs.{Need, need_of, ask_of, Fact, simple, slice?}
use Rattle.machine_never.proofs.Came.{via-newest, via-take}
use Rattle.machine_never.proofs.Given.{given-right}
use Rattle.check_nesting.specs.Grammar.{name_count}

-- ---- by names

all-enters : T (below name_count (λ n. simple needs.none (row_of n).enter))
unfolding simple need_of ask_of rows on_exit_data on_exit_character_reference_marker on_exit_character_reference_marker_numeric on_exit_character_reference_marker_hexadecimal on_exit_character_reference_value on_exit_line_ending on_exit_blank_line_ending on_enter_emphasis on_exit_emphasis on_enter_strong on_exit_strong on_exit_break on_enter_raw_text on_exit_raw_text on_enter_html_text on_enter_html_flow on_exit_html on_exit_html_data generate_autolink on_exit_autolink_email on_exit_autolink_protocol on_enter_paragraph on_exit_paragraph on_enter_block_quote on_exit_block_quote on_exit_thematic_break on_exit_heading_atx_sequence on_exit_heading_atx_text on_exit_heading_atx on_exit_heading_setext_text setext_rank on_exit_heading_setext_underline_sequence on_enter_code_indented on_enter_raw_flow on_exit_raw_flow_fence on_exit_raw_flow_fence_info on_exit_raw_flow_chunk on_exit_raw_flow on_enter_list on_exit_list on_enter_list_item_marker on_exit_list_item_value on_exit_list_item on_enter_gfm_table on_exit_gfm_table on_enter_gfm_table_head on_exit_gfm_table_head on_enter_gfm_table_body on_exit_gfm_table_body on_enter_gfm_table_cell on_exit_gfm_table_cell on_enter_gfm_table_row on_exit_gfm_table_row on_enter_buffer on_exit_drop on_enter_link on_enter_image on_exit_label on_exit_label_text on_exit_reference_string on_enter_resource on_enter_resource_destination_string on_exit_resource_destination_string on_exit_resource_title_string on_exit_media on_enter_definition on_exit_definition_label_string on_enter_definition_destination_string on_exit_definition_destination_string on_exit_definition_title_string on_exit_definition on_enter_gfm_footnote_call on_exit_gfm_footnote_call on_enter_gfm_footnote_definition on_exit_gfm_footnote_definition_label_string on_exit_gfm_footnote_definition_prefix on_exit_gfm_footnote_definition
all-enters = tt

-- at these the state is asked too, or more of the event
abbrev pub asking : ℕ → Bool
asking n = one_of (11 ∷ 18 ∷ 23 ∷ 26 ∷ 27 ∷ 28 ∷ 33 ∷ 45 ∷ 46 ∷ 53 ∷ 62 ∷ 63 ∷ []) n

all-exits : T (below name_count (λ n. asking n || simple slice? (row_of n).exit))
unfolding simple need_of ask_of rows on_exit_data on_exit_character_reference_marker on_exit_character_reference_marker_numeric on_exit_character_reference_marker_hexadecimal on_exit_character_reference_value on_exit_line_ending on_exit_blank_line_ending on_enter_emphasis on_exit_emphasis on_enter_strong on_exit_strong on_exit_break on_enter_raw_text on_exit_raw_text on_enter_html_text on_enter_html_flow on_exit_html on_exit_html_data generate_autolink on_exit_autolink_email on_exit_autolink_protocol on_enter_paragraph on_exit_paragraph on_enter_block_quote on_exit_block_quote on_exit_thematic_break on_exit_heading_atx_sequence on_exit_heading_atx_text on_exit_heading_atx on_exit_heading_setext_text setext_rank on_exit_heading_setext_underline_sequence on_enter_code_indented on_enter_raw_flow on_exit_raw_flow_fence on_exit_raw_flow_fence_info on_exit_raw_flow_chunk on_exit_raw_flow on_enter_list on_exit_list on_enter_list_item_marker on_exit_list_item_value on_exit_list_item on_enter_gfm_table on_exit_gfm_table on_enter_gfm_table_head on_exit_gfm_table_head on_enter_gfm_table_body on_exit_gfm_table_body on_enter_gfm_table_cell on_exit_gfm_table_cell on_enter_gfm_table_row on_exit_gfm_table_row on_enter_buffer on_exit_drop on_enter_link on_enter_image on_exit_label on_exit_label_text on_exit_reference_string on_enter_resource on_enter_resource_destination_string on_exit_resource_destination_string on_exit_resource_title_string on_exit_media on_enter_definition on_exit_definition_label_string on_enter_definition_destination_string on_exit_definition_destination_string on_exit_definition_title_string on_exit_definition on_enter_gfm_footnote_call on_exit_gfm_footnote_call on_enter_gfm_footnote_definition on_exit_gfm_footnote_definition_label_string on_exit_gfm_footnote_definition_prefix on_exit_gfm_footnote_definition
all-exits = tt

nothing-given : (t : Turn) (k : Need) → T (needs.none k) → Fact k t
nothing-given t needs.free g = tt
nothing-given t needs.slices g = absurd g
nothing-given t needs.starts g = absurd g
nothing-given t needs.begins g = absurd g
nothing-given t needs.follows g = absurd g
nothing-given t needs.looks g = absurd g
nothing-given t needs.more g = absurd g

pub right-enter : (t : Turn) (n : ℕ) → n < name_count → (s : State) → Right (row_of n).enter t s
right-enter t n h s = given-right t needs.none (λ k g. nothing-given t k g) (row_of n).enter (computed (λ n. simple needs.none (row_of n).enter) name_count all-enters n h) s

pub right-exit : (t : Turn) (n : ℕ) → n < name_count → asking n ≡ false → Fact needs.slices t → (s : State) → Right (row_of n).exit t s
right-exit t n h a own s = given-right t slice? (λ k g. only k g) (row_of n).exit (at (asking n) a (computed (λ n. asking n || simple slice? (row_of n).exit) name_count all-exits n h)) s
  where
    only : (k : Need) → T (slice? k) → Fact k t
    only needs.free g = tt
    only needs.slices g = own
    only needs.starts g = absurd g
    only needs.begins g = absurd g
    only needs.follows g = absurd g
    only needs.looks g = absurd g
    only needs.more g = absurd g

    at : (x : Bool) → x ≡ false → T (x || simple slice? (row_of n).exit) → T (simple slice? (row_of n).exit)
    at true e g = let z : ◌≡◌ {A = ℕ} 0 1 = cc in absurd (omega arith)
    at false e g = g

-- the others

-- behind the search of a link or image
abbrev after_seek : Command
after_seek =
    unless (is alt) (whether is_image (put "<img src=\"") (put "<a href=\"") ▸ show destination ▸ when is_image (put "\" alt=\""))
    ▸ when is_image (show label)
    ▸ unless (is alt) (put "\"" ▸ show title ▸ when is_image (put " /") ▸ put ">")
    ▸ unless is_image (show label ▸ tag "</a>")
    ▸ close_media

after-seek : T (simple needs.none after_seek)
unfolding simple need_of ask_of
after-seek = tt

module _ (t : Turn) (s : State) where
  pub right-18 : Fact needs.begins t → Right (row_of 18).exit t s
  unfolding Right Asks rows on_exit_heading_setext_underline_sequence setext_rank
  right-18 f = (tt, λ u e. (tt, λ u e. ((f, tt, tt), λ u e. (tt, λ u e. (tt, λ u e. (tt, λ u e. ((f, tt, tt), λ u e. tt)))))))

  pub right-23 : Fact needs.looks t → Right (row_of 23).exit t s
  unfolding Right Asks rows on_exit_list_item
  right-23 f = (tt, λ u e. ((f, tt, (f, tt, tt)), λ u e. tt))

  pub right-26 : Fact needs.starts t → Right (row_of 26).exit t s
  unfolding Right Asks rows on_exit_list_item_value
  right-26 f = (tt, f, tt)

  pub right-27 : Fact needs.follows t → Right (row_of 27).exit t s
  unfolding Right Asks rows on_exit_raw_flow
  right-27 f = ((tt, (tt, (f, tt, tt), tt), tt), λ u e. ((tt, tt, tt), λ u e. (tt, λ u e. (tt, λ u e. ((tt, tt, tt), λ u e. (tt, λ u e. tt))))))

  pub right-28 : Fact needs.follows t → Right (row_of 28).exit t s
  unfolding Right Asks rows on_exit_raw_flow
  right-28 f = ((tt, (tt, (f, tt, tt), tt), tt), λ u e. ((tt, tt, tt), λ u e. (tt, λ u e. (tt, λ u e. ((tt, tt, tt), λ u e. (tt, λ u e. tt))))))

  pub right-11 : Right reference t s → Right (row_of 11).exit t s
  unfolding rows on_exit_character_reference_value
  right-11 r = r

  pub right-33 : Right resume_code t s → Right (row_of 33).exit t s
  unfolding Right Asks rows on_exit_raw_text
  right-33 r = (r, λ u e. (tt, λ u e. (tt, tt, tt)))

  -- the search comes behind a flag, the definition behind a capture
  same-media : (u : State) → within leave_image t s ≡ go u → Sought t s → Sought t u
  unfolding exec leave_alt
  same-media u e r = via-newest s u (λ (m, ms). go (set_flag alt (any_image ms) s)) (within-exec leave_image t s u e) (λ m ms p q. let i : set_flag alt (any_image ms) s ≡ u = cc in rw (sym i) r)

  sought-right : Sought t s → Right (leave_image ▸ seek_definition ▸ after_seek) t s
  unfolding Right
  sought-right r = (tt, λ u e. (same-media u e r, λ w i. given-right t needs.none (λ k g. nothing-given t k g) after_seek after-seek w))

  pub right-45 : Sought t s → Right (row_of 45).exit t s
  unfolding rows on_exit_media
  right-45 r = sought-right r

  pub right-46 : Sought t s → Right (row_of 46).exit t s
  unfolding rows on_exit_media
  right-46 r = sought-right r

  same-defines : (u : State) → within C.drop t s ≡ go u → Defines t s → Defines t u
  unfolding exec
  same-defines u e r = via-take s u (λ (b, w). go w) (within-exec C.drop t s u e) (λ c cs q. let i : set_captures cs s ≡ u = cc in rw (sym i) r)

  pub right-53 : Defines t s → Right (row_of 53).exit t s
  unfolding Right rows on_exit_definition
  right-53 r = (tt, λ u e. same-defines u e r)

  pub right-62 : Calls t s → Right (row_of 62).exit t s
  unfolding Right rows on_exit_gfm_footnote_call
  right-62 r = r

  pub right-63 : Notes t s → Right (row_of 63).exit t s
  unfolding Right rows on_exit_gfm_footnote_definition
  right-63 r = (r, λ u e. tt)
