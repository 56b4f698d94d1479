-- The kinds of arms, and which names have none. Assumes nothing.
use mathlib.Core.Path.{◌≡◌, refl}
use mathlib.Core.Bool.{true, not}
use mathlib.Core.List.{List, [], ◌∷◌}
use Prim.Native.Nat.{ℕ, suc-le-suc, ◌≤◌}
use Rattle.event.specs.declared.Event.{Event}
use Rattle.event.specs.Event.{is_enter}
use Rattle.machine.specs.Command.{Command}
use Rattle.machine.specs.Handlers.{rows}
use Rattle.machine.specs.OnInline.{on_enter_emphasis, on_enter_strong, on_enter_raw_text}
use Rattle.machine.specs.OnText.{on_enter_html_text, on_enter_html_flow, on_enter_buffer}
use Rattle.machine.specs.OnFlow.{on_enter_paragraph, on_enter_block_quote, on_enter_code_indented, on_enter_raw_flow}
use Rattle.machine.specs.OnList.{on_enter_list, on_enter_list_item_marker}
use Rattle.machine.specs.OnTable.{on_enter_gfm_table, on_enter_gfm_table_head, on_enter_gfm_table_body}
use Rattle.machine.specs.OnCell.{on_enter_gfm_table_cell, on_enter_gfm_table_row}
use Rattle.machine.specs.OnLink.{on_enter_link, on_enter_image, on_enter_resource, on_enter_resource_destination_string}
use Rattle.machine.specs.OnDefinition.{on_enter_definition, on_enter_definition_destination_string}
use Rattle.machine.specs.OnFootnote.{on_enter_gfm_footnote_call, on_enter_gfm_footnote_definition}
use Rattle.state_context.specs.Rel.{Any}
use Rattle.state_whole.specs.declared.Whole.{Whole}
use Rattle.state_whole.specs.Quiet.{is_quiet}
use Rattle.state_whole.specs.Whole.{Always, Unlent, OnStarts}
use Rattle.dispatch_turns.specs.Turns.{command_for}
use Rattle.dispatch_turns.specs.Loud.{world}
use Rattle.dispatch_turns.proofs.Arms.{handler_at, NoneOf, below, each}
use Rattle.dispatch_turns.proofs.Loud.{quiet_by, acting, still}
use Rattle.dispatch_media.specs.Enters.{enters_whole, Enters}

-- ---- arms

module _ {e : Event} {d : Command} {b r : Whole} {starts : List ℕ} (n : ℕ) (p : e.name ≡ n) (q : handler_at true n ≡ d) where
  pub by-unlent : Unlent Always Any d b r → Enters e b starts r starts
  by-unlent k = record { enters = λ text work out tables. acting n p q (λ a. tt) (λ t v. v) (k.unlent text (world work out starts tables)) }

  pub by-starts : {starts' : List ℕ} → OnStarts Always Any d b starts r starts' → Enters e b starts r starts'
  by-starts k = record { enters = λ text work out tables. acting n p q (λ a. tt) (λ t v. v) (k.on-starts text (world work out starts tables) refl) }

-- ---- names

names : below 256 (λ n. is_quiet (handler_at true n)) ≡ below 256 (λ n. not (enters_whole n))
unfolding rows on_enter_emphasis on_enter_strong on_enter_raw_text on_enter_html_text on_enter_html_flow on_enter_paragraph on_enter_block_quote on_enter_code_indented on_enter_raw_flow on_enter_list on_enter_list_item_marker on_enter_gfm_table on_enter_gfm_table_head on_enter_gfm_table_body on_enter_gfm_table_cell on_enter_gfm_table_row on_enter_buffer on_enter_link on_enter_image on_enter_resource on_enter_resource_destination_string on_enter_definition on_enter_definition_destination_string on_enter_gfm_footnote_call on_enter_gfm_footnote_definition
names = refl

-- the enters that are not quiet are those of this crate
quiet-enter : (n : ℕ) → n ≤ 255 → is_quiet (handler_at true n) ≡ not (enters_whole n)
quiet-enter n h = each (λ n. is_quiet (handler_at true n)) (λ n. not (enters_whole n)) 256 names n (suc-le-suc h)

pub quiet_is : (e : Event) → is_enter e ≡ true → e.name ≤ 255 → is_quiet (command_for e) ≡ not (enters_whole e.name)
quiet_is e = quiet_by enters_whole e quiet-enter

pub by-none : {e : Event} {b : Whole} {starts : List ℕ} → NoneOf (62 ∷ 53 ∷ 49 ∷ 46 ∷ 45 ∷ []) e.name → Enters e b starts b starts
by-none none = record { enters = λ text work out tables. still enters_whole quiet-enter (62 ∷ 53 ∷ 49 ∷ 46 ∷ 45 ∷ []) refl none }
