-- An element leaves the slices of the media around it as they were, unless it is a part of one. Assumes nothing.
use mathlib.Core.Path.{◌≡◌, refl, ap, ◌∙◌}
use mathlib.Core.Bool.{Bool, true, false, not, ◌&&◌, ◌||◌}
use mathlib.Core.List.{List, [], ◌∷◌}
use mathlib.Core.Option.{none}
use Prim.Native.Nat.{ℕ, ◌≤◌}
use native.Mathlib.Omega.{arith}
use lib.Dec.{T}
use Rattle.lent.specs.Bytes.{one_of}
use Rattle.event.specs.declared.Event.{Event}
use Rattle.event.specs.Event.{is_enter}
use Rattle.check_nesting.specs.Grammar.{name_of, holds, rules, name_count, call_label, kind_count}
use Rattle.check_rules.specs.Elements.{Forest, Pair}
use Rattle.machine.specs.Handlers.{rows}
use Rattle.machine.specs.OnText.{on_exit_data, on_exit_character_reference_marker, on_exit_character_reference_marker_numeric, on_exit_character_reference_marker_hexadecimal, on_exit_character_reference_value, on_exit_line_ending, on_exit_blank_line_ending, on_enter_html_text, on_enter_html_flow, on_exit_html, on_exit_html_data, on_enter_buffer, on_exit_drop}
use Rattle.machine.specs.OnInline.{on_enter_emphasis, on_exit_emphasis, on_enter_strong, on_exit_strong, on_exit_break, on_enter_raw_text, on_exit_raw_text, generate_autolink, on_exit_autolink_email, on_exit_autolink_protocol}
use Rattle.machine.specs.OnFlow.{on_enter_paragraph, on_exit_paragraph, on_enter_block_quote, on_exit_block_quote, on_exit_thematic_break, on_enter_code_indented, on_enter_raw_flow, on_exit_raw_flow_fence, on_exit_raw_flow_fence_info, on_exit_raw_flow_chunk, on_exit_raw_flow}
use Rattle.machine.specs.OnHeading.{on_exit_heading_atx_sequence, on_exit_heading_atx_text, on_exit_heading_atx}
use Rattle.machine.specs.OnSetext.{on_exit_heading_setext_text, setext_rank, on_exit_heading_setext_underline_sequence}
use Rattle.machine.specs.OnList.{on_enter_list, on_exit_list, on_enter_list_item_marker, on_exit_list_item_value, on_exit_list_item}
use Rattle.machine.specs.OnTable.{on_enter_gfm_table, on_exit_gfm_table, on_enter_gfm_table_head, on_exit_gfm_table_head, on_enter_gfm_table_body, on_exit_gfm_table_body}
use Rattle.machine.specs.OnCell.{on_enter_gfm_table_cell, on_exit_gfm_table_cell, on_enter_gfm_table_row, on_exit_gfm_table_row}
use Rattle.machine.specs.OnLink.{on_enter_link, on_enter_image, on_exit_label, on_exit_label_text, on_exit_reference_string, on_enter_resource, on_enter_resource_destination_string, on_exit_resource_destination_string, on_exit_resource_title_string}
use Rattle.machine.specs.OnMedia.{on_exit_media}
use Rattle.machine.specs.OnDefinition.{on_enter_definition, on_exit_definition_label_string, on_enter_definition_destination_string, on_exit_definition_destination_string, on_exit_definition_title_string, on_exit_definition}
use Rattle.machine.specs.OnFootnote.{on_enter_gfm_footnote_call, on_exit_gfm_footnote_call, on_enter_gfm_footnote_definition, on_exit_gfm_footnote_definition_label_string, on_exit_gfm_footnote_definition_prefix, on_exit_gfm_footnote_definition}
use Rattle.machine_shape.specs.Fits.{every}
use Rattle.machine_shape.specs.Kinds.{row_of, below}
use Rattle.machine_shape.specs.Grown.{Kinds, none, through, child}
use Rattle.machine_shape.proofs.Says.{both}
use Rattle.machine_shape.proofs.Test.{computed, kind-below}
use Rattle.machine_shape.proofs.Calm.{every_item, kinds-taken, every-split}
use Rattle.machine_never.specs.Values.{Ids, Effect, ids3, effects_of, tracks}
use Rattle.machine_never.specs.Ghost.{effects_at, ids_run, ids_over, off, only_top, all_effects, is_push, pops_last}
use Rattle.machine_never.proofs.Ids.{TopOf, off-run, top-run, push-run, pop-run}

-- ---- the tests

abbrev pub enter_effects : ℕ → List Effect
enter_effects n = effects_of (row_of n).enter

abbrev pub exit_effects : ℕ → List Effect
exit_effects n = effects_of (row_of n).exit

pub all-track : T (below name_count (λ n. tracks (row_of n).enter && tracks (row_of n).exit))
unfolding tracks effects_of rows on_exit_data on_exit_character_reference_marker on_exit_character_reference_marker_numeric on_exit_character_reference_marker_hexadecimal on_exit_character_reference_value on_exit_line_ending on_exit_blank_line_ending on_enter_emphasis on_exit_emphasis on_enter_strong on_exit_strong on_exit_break on_enter_raw_text on_exit_raw_text on_enter_html_text on_enter_html_flow on_exit_html on_exit_html_data generate_autolink on_exit_autolink_email on_exit_autolink_protocol on_enter_paragraph on_exit_paragraph on_enter_block_quote on_exit_block_quote on_exit_thematic_break on_exit_heading_atx_sequence on_exit_heading_atx_text on_exit_heading_atx on_exit_heading_setext_text setext_rank on_exit_heading_setext_underline_sequence on_enter_code_indented on_enter_raw_flow on_exit_raw_flow_fence on_exit_raw_flow_fence_info on_exit_raw_flow_chunk on_exit_raw_flow on_enter_list on_exit_list on_enter_list_item_marker on_exit_list_item_value on_exit_list_item on_enter_gfm_table on_exit_gfm_table on_enter_gfm_table_head on_exit_gfm_table_head on_enter_gfm_table_body on_exit_gfm_table_body on_enter_gfm_table_cell on_exit_gfm_table_cell on_enter_gfm_table_row on_exit_gfm_table_row on_enter_buffer on_exit_drop on_enter_link on_enter_image on_exit_label on_exit_label_text on_exit_reference_string on_enter_resource on_enter_resource_destination_string on_exit_resource_destination_string on_exit_resource_title_string on_exit_media on_enter_definition on_exit_definition_label_string on_enter_definition_destination_string on_exit_definition_destination_string on_exit_definition_title_string on_exit_definition on_enter_gfm_footnote_call on_exit_gfm_footnote_call on_enter_gfm_footnote_definition on_exit_gfm_footnote_definition_label_string on_exit_gfm_footnote_definition_prefix on_exit_gfm_footnote_definition
all-track = tt

-- it opens a medium and closes it
abbrev around : ℕ → Bool
around k = is_push (enter_effects (name_of k)) && pops_last (exit_effects (name_of k))

abbrev stays : ℕ → Bool
stays k = (all_effects only_top (enter_effects (name_of k)) && all_effects only_top (exit_effects (name_of k))) || around k

all_stay : T (below kind_count stays)
unfolding effects_of rows on_exit_data on_exit_character_reference_marker on_exit_character_reference_marker_numeric on_exit_character_reference_marker_hexadecimal on_exit_character_reference_value on_exit_line_ending on_exit_blank_line_ending on_enter_emphasis on_exit_emphasis on_enter_strong on_exit_strong on_exit_break on_enter_raw_text on_exit_raw_text on_enter_html_text on_enter_html_flow on_exit_html on_exit_html_data generate_autolink on_exit_autolink_email on_exit_autolink_protocol on_enter_paragraph on_exit_paragraph on_enter_block_quote on_exit_block_quote on_exit_thematic_break on_exit_heading_atx_sequence on_exit_heading_atx_text on_exit_heading_atx on_exit_heading_setext_text setext_rank on_exit_heading_setext_underline_sequence on_enter_code_indented on_enter_raw_flow on_exit_raw_flow_fence on_exit_raw_flow_fence_info on_exit_raw_flow_chunk on_exit_raw_flow on_enter_list on_exit_list on_enter_list_item_marker on_exit_list_item_value on_exit_list_item on_enter_gfm_table on_exit_gfm_table on_enter_gfm_table_head on_exit_gfm_table_head on_enter_gfm_table_body on_exit_gfm_table_body on_enter_gfm_table_cell on_exit_gfm_table_cell on_enter_gfm_table_row on_exit_gfm_table_row on_enter_buffer on_exit_drop on_enter_link on_enter_image on_exit_label on_exit_label_text on_exit_reference_string on_enter_resource on_enter_resource_destination_string on_exit_resource_destination_string on_exit_resource_title_string on_exit_media on_enter_definition on_exit_definition_label_string on_enter_definition_destination_string on_exit_definition_destination_string on_exit_definition_title_string on_exit_definition on_enter_gfm_footnote_call on_exit_gfm_footnote_call on_enter_gfm_footnote_definition on_exit_gfm_footnote_definition_label_string on_exit_gfm_footnote_definition_prefix on_exit_gfm_footnote_definition
all_stay = tt

-- no part of a medium
abbrev pub inert : ℕ → Bool
inert k = not (one_of (47 ∷ 48 ∷ 49 ∷ 50 ∷ 52 ∷ 54 ∷ 55 ∷ call_label ∷ []) k)

abbrev idles : ℕ → Bool
idles k = not (inert k) || ((every_item inert (holds k) && (all_effects off (enter_effects (name_of k)) && all_effects off (exit_effects (name_of k)))) || around k)

all-idle : T (below kind_count idles)
unfolding effects_of rows holds rules on_exit_data on_exit_character_reference_marker on_exit_character_reference_marker_numeric on_exit_character_reference_marker_hexadecimal on_exit_character_reference_value on_exit_line_ending on_exit_blank_line_ending on_enter_emphasis on_exit_emphasis on_enter_strong on_exit_strong on_exit_break on_enter_raw_text on_exit_raw_text on_enter_html_text on_enter_html_flow on_exit_html on_exit_html_data generate_autolink on_exit_autolink_email on_exit_autolink_protocol on_enter_paragraph on_exit_paragraph on_enter_block_quote on_exit_block_quote on_exit_thematic_break on_exit_heading_atx_sequence on_exit_heading_atx_text on_exit_heading_atx on_exit_heading_setext_text setext_rank on_exit_heading_setext_underline_sequence on_enter_code_indented on_enter_raw_flow on_exit_raw_flow_fence on_exit_raw_flow_fence_info on_exit_raw_flow_chunk on_exit_raw_flow on_enter_list on_exit_list on_enter_list_item_marker on_exit_list_item_value on_exit_list_item on_enter_gfm_table on_exit_gfm_table on_enter_gfm_table_head on_exit_gfm_table_head on_enter_gfm_table_body on_exit_gfm_table_body on_enter_gfm_table_cell on_exit_gfm_table_cell on_enter_gfm_table_row on_exit_gfm_table_row on_enter_buffer on_exit_drop on_enter_link on_enter_image on_exit_label on_exit_label_text on_exit_reference_string on_enter_resource on_enter_resource_destination_string on_exit_resource_destination_string on_exit_resource_title_string on_exit_media on_enter_definition on_exit_definition_label_string on_enter_definition_destination_string on_exit_definition_destination_string on_exit_definition_title_string on_exit_definition on_enter_gfm_footnote_call on_exit_gfm_footnote_call on_enter_gfm_footnote_definition on_exit_gfm_footnote_definition_label_string on_exit_gfm_footnote_definition_prefix on_exit_gfm_footnote_definition
all-idle = tt

thin-off : T (below 5 (λ n. all_effects off (enter_effects n) && all_effects off (exit_effects n)))
unfolding effects_of rows on_exit_data on_exit_character_reference_marker on_exit_character_reference_marker_numeric on_exit_character_reference_marker_hexadecimal on_exit_character_reference_value on_exit_line_ending on_exit_blank_line_ending on_enter_emphasis on_exit_emphasis on_enter_strong on_exit_strong on_exit_break on_enter_raw_text on_exit_raw_text on_enter_html_text on_enter_html_flow on_exit_html on_exit_html_data generate_autolink on_exit_autolink_email on_exit_autolink_protocol on_enter_paragraph on_exit_paragraph on_enter_block_quote on_exit_block_quote on_exit_thematic_break on_exit_heading_atx_sequence on_exit_heading_atx_text on_exit_heading_atx on_exit_heading_setext_text setext_rank on_exit_heading_setext_underline_sequence on_enter_code_indented on_enter_raw_flow on_exit_raw_flow_fence on_exit_raw_flow_fence_info on_exit_raw_flow_chunk on_exit_raw_flow on_enter_list on_exit_list on_enter_list_item_marker on_exit_list_item_value on_exit_list_item on_enter_gfm_table on_exit_gfm_table on_enter_gfm_table_head on_exit_gfm_table_head on_enter_gfm_table_body on_exit_gfm_table_body on_enter_gfm_table_cell on_exit_gfm_table_cell on_enter_gfm_table_row on_exit_gfm_table_row on_enter_buffer on_exit_drop on_enter_link on_enter_image on_exit_label on_exit_label_text on_exit_reference_string on_enter_resource on_enter_resource_destination_string on_exit_resource_destination_string on_exit_resource_title_string on_exit_media on_enter_definition on_exit_definition_label_string on_enter_definition_destination_string on_exit_definition_destination_string on_exit_definition_title_string on_exit_definition on_enter_gfm_footnote_call on_exit_gfm_footnote_call on_enter_gfm_footnote_definition on_exit_gfm_footnote_definition_label_string on_exit_gfm_footnote_definition_prefix on_exit_gfm_footnote_definition
thin-off = tt

-- ---- an event's effects are those of its name

pub enter-effects : (a : Event) (n : ℕ) → is_enter a ≡ true → a.name ≡ n → effects_at a ≡ enter_effects n
enter-effects a n h e = rw (h, e) refl

pub exit-effects : (a : Event) (n : ℕ) → is_enter a ≡ false → a.name ≡ n → effects_at a ≡ exit_effects n
exit-effects a n h e = rw (h, e) refl

run-as : (e : Event) (xs ys : List Effect) (is : List Ids) → xs ≡ ys → ids_run e xs is ≡ ids_run e ys is
run-as e xs ys is p = ap (λ (l : List Effect). ids_run e l is) p

-- 0 to 4
pub thin-runs : (a z : Event) (is js : List Ids) → a.name ≤ 4 → Pair a z → (ids_run a (effects_at a) is ≡ is) × (ids_run z (effects_at z) js ≡ js)
thin-runs a z is js m r =
    let p = both (all_effects off (enter_effects a.name)) (all_effects off (exit_effects a.name)) (computed (λ n. all_effects off (enter_effects n) && all_effects off (exit_effects n)) 5 thin-off a.name (omega arith)) in (
      run-as a (effects_at a) (enter_effects a.name) is (enter-effects a a.name r.0 refl) ∙ off-run a (enter_effects a.name) is p.0,
      run-as z (effects_at z) (exit_effects a.name) js (exit-effects z a.name r.1 r.2) ∙ off-run z (exit_effects a.name) js p.1,
    )

either : (x y : Bool) {X : Type 0} → T (x || y) → (T x → X) → (T y → X) → X
either true y t f g = f tt
either false y t f g = g t

implied : (x y : Bool) → T (not x || y) → T x → T y
implied true y t i = t
implied false y t i = absurd i

module _ (a z : Event) (k : ℕ) (e : a.name ≡ name_of k) (r : Pair a z) where
  entry : (is : List Ids) → ids_run a (effects_at a) is ≡ ids_run a (enter_effects (name_of k)) is
  entry is = run-as a (effects_at a) (enter_effects (name_of k)) is (enter-effects a (name_of k) r.0 e)

  leaving : (is : List Ids) → ids_run z (effects_at z) is ≡ ids_run z (exit_effects (name_of k)) is
  leaving is = run-as z (effects_at z) (exit_effects (name_of k)) is (exit-effects z (name_of k) r.1 (r.2 ∙ e))

  -- what opens a medium and closes it leaves what lies below
  closed : (f : Forest) (is : List Ids) → T (around k) → ((i : Ids) (is : List Ids) → TopOf (ids_over f (i ∷ is)) is) → ids_run z (effects_at z) (ids_over f (ids_run a (effects_at a) is)) ≡ is
  closed f is t inside =
      let p = both (is_push (enter_effects (name_of k))) (pops_last (exit_effects (name_of k))) t in
      let q = inside (ids3 none none false) is in
      ap (λ (l : List Ids). ids_run z (effects_at z) (ids_over f l)) (entry is ∙ push-run a (enter_effects (name_of k)) is p.0)
      ∙ ap (ids_run z (effects_at z)) q.1
      ∙ leaving (q.0 ∷ is)
      ∙ pop-run z (exit_effects (name_of k)) q.0 is p.1

  topped : (f : Forest) (i : Ids) (is : List Ids) → T (stays k) → ((i : Ids) (is : List Ids) → TopOf (ids_over f (i ∷ is)) is) → TopOf (ids_run z (effects_at z) (ids_over f (ids_run a (effects_at a) (i ∷ is)))) is
  topped f i is t inside =
      either (all_effects only_top (enter_effects (name_of k)) && all_effects only_top (exit_effects (name_of k))) (around k) t
      (λ u. let p = both (all_effects only_top (enter_effects (name_of k))) (all_effects only_top (exit_effects (name_of k))) u in
      let q = top-run a (enter_effects (name_of k)) i is p.0 in
      let w = inside q.0 is in
      let v = top-run z (exit_effects (name_of k)) w.0 is p.1 in
      (v.0, ap (λ (l : List Ids). ids_run z (effects_at z) (ids_over f l)) (entry (i ∷ is) ∙ q.1) ∙ ap (ids_run z (effects_at z)) w.1 ∙ leaving (w.0 ∷ is) ∙ v.1))
      (λ u. (i, closed f (i ∷ is) u inside))

  same : (f : Forest) (is : List Ids) → T (all_effects off (enter_effects (name_of k)) && all_effects off (exit_effects (name_of k))) → ids_over f is ≡ is → ids_run z (effects_at z) (ids_over f (ids_run a (effects_at a) is)) ≡ is
  same f is t inside =
      let p = both (all_effects off (enter_effects (name_of k))) (all_effects off (exit_effects (name_of k))) t in
      ap (λ (l : List Ids). ids_run z (effects_at z) (ids_over f l)) (entry is ∙ off-run a (enter_effects (name_of k)) is p.0) ∙ ap (ids_run z (effects_at z)) inside ∙ leaving is ∙ off-run z (exit_effects (name_of k)) is p.1

-- ---- forests

-- the newest is another at most
pub tops-stay : {ks : List ℕ} {f : Forest} → Kinds ks f → (i : Ids) (is : List Ids) → TopOf (ids_over f (i ∷ is)) is
tops-stay none i is = (i, refl)
tops-stay (through {a} {z} {f = f} {g} m r c d) i is =
    let p = tops-stay c i is in
    let t = thin-runs a z (i ∷ is) (ids_over f (i ∷ is)) m r in
    let q = tops-stay d p.0 is in
    (q.0, ap (λ (l : List Ids). ids_over g (ids_run z (effects_at z) (ids_over f l))) t.0 ∙ ap (ids_over g) (t.1 ∙ p.1) ∙ q.1)
tops-stay (child {a} {z} {k} {f = f} {g} e l r w c d) i is =
    let p = topped a z k e r f i is (computed stays kind_count all_stay k (kind-below k l)) (λ i is. tops-stay c i is) in
    let q = tops-stay d p.0 is in
    (q.0, ap (ids_over g) p.1 ∙ q.1)

-- nothing is another
pub all_same : {ks : List ℕ} {f : Forest} → Kinds ks f → T (every inert ks) → (is : List Ids) → ids_over f is ≡ is
all_same none t is = refl
all_same (through {a} {z} {ks} {ls} {f} {g} m r c d) t is =
    let p = every-split inert ks ls t in
    let u = thin-runs a z is (ids_over f is) m r in
    ap (λ (l : List Ids). ids_over g (ids_run z (effects_at z) (ids_over f l))) u.0 ∙ ap (ids_over g) (u.1 ∙ all_same c p.0 is) ∙ all_same d p.1 is
all_same (child {a} {z} {k} {ls = ls} {f} {g} e l r w c d) t is =
    let p = both (inert k) (every inert ls) t in
    let q = implied (inert k) ((every_item inert (holds k) && (all_effects off (enter_effects (name_of k)) && all_effects off (exit_effects (name_of k)))) || around k) (computed idles kind_count all-idle k (kind-below k l)) p.0 in
    let one : ids_run z (effects_at z) (ids_over f (ids_run a (effects_at a) is)) ≡ is =
    either (every_item inert (holds k) && (all_effects off (enter_effects (name_of k)) && all_effects off (exit_effects (name_of k)))) (around k) q
    (λ u. let v = both (every_item inert (holds k)) (all_effects off (enter_effects (name_of k)) && all_effects off (exit_effects (name_of k))) u in same a z k e r f is v.1 (all_same c (kinds-taken inert w v.0) is))
    (λ u. closed a z k e r f is u (λ i is. tops-stay c i is)) in
    ap (ids_over g) one ∙ all_same d p.1 is

-- a definition
pub definition-same : (a z : Event) (f : Forest) {ks : List ℕ} → a.name ≡ 53 → Pair a z → Kinds ks f → (is : List Ids) → ids_run z (effects_at z) (ids_over f (ids_run a (effects_at a) is)) ≡ is
unfolding effects_of rows on_enter_definition on_exit_definition
definition-same a z f e r c is = closed a z 53 e r f is tt (λ i is. tops-stay c i is)
