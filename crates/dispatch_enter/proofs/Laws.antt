-- What the dispatcher's own handlers take beside the context's laws, and how a group's promise becomes the whole's. Assumes nothing.
use mathlib.Core.Path.{◌≡◌, refl, ap, ◌∙◌}
use mathlib.Core.Bool.{Bool, true, false, ◌||◌}
use mathlib.Core.List.{List}
use Prim.Native.Nat.{ℕ, ◌≤◌}
use lib.Dec.{eqb}
use Rattle.event.specs.declared.Event.{Event}
use Rattle.event.specs.Event.{is_loose}
use Rattle.machine.specs.Turn.{Turn}
use Rattle.machine.specs.OnList.{on_enter_list}
use Rattle.state_context.specs.declared.Context.{Context}
use Rattle.state_context.specs.Rel.{Keeps, HtmlAllowed}
use Rattle.state_context.proofs.Commands.{narrow}
use Rattle.on_list.specs.Lists.{OpensList}
use Rattle.on_table.specs.Table.{IsEvent}
use Rattle.dispatch_turns.specs.Turns.{Among}
use Rattle.dispatch_turns.proofs.Turns.{seen_as}
use Rattle.dispatch_enter.specs.Enters.{Enters}
use Rattle.dispatch_enter.specs.Private.{Of}

or_no : (x : Bool) → (x || false) ≡ x
or_no true = refl
or_no false = refl

-- a list by its event
pub lists : {e : Event} {loose : Bool} {c r : Context} {w o w' o' : List ℕ} → loose ≡ is_loose e → Keeps (OpensList (eqb e.name 21) loose) on_enter_list c w o r w' o' → Keeps (IsEvent e) on_enter_list c w o r w' o'
lists {e = e} q k = narrow (λ t v. record { ordered = record { ordered-is = rw v.event-is (or_no (eqb e.name 21)) }; loose-is = rw (v.event-is, q) }) k

-- whether dangerous HTML is allowed
pub html : {e : Event} {allowed : Bool} (t : Turn) → Of e allowed t → HtmlAllowed allowed t
html t v = record { allowed-is = v.allowed-is }

-- ---- a group's promise is the whole's

module _ {lo hi : ℕ} {e : Event} {allowed : Bool} {c r : Context} {captures starts out captures' starts' out' : List ℕ} where
  entered : {View : Turn → Type 0} → ((t : Turn) → t.event ≡ e → t.options.allow_dangerous_html ≡ allowed → View t) → Among true lo hi View e c captures starts out r captures' starts' out' → lo ≤ e.name → e.name ≤ hi → Enters e allowed c captures starts out r captures' starts' out'
  entered f k a b =
      record {
        enters = λ h text events o i p q. record {
          dispatches = λ quiet. seen_as (λ t v. f t (v.event-is ∙ p) (ap (λ x. x.allow_dangerous_html) v.options-are ∙ q)) ((k.among h a b).dispatches quiet);
        };
      }

  pub by-event : Among true lo hi (IsEvent e) e c captures starts out r captures' starts' out' → lo ≤ e.name → e.name ≤ hi → Enters e allowed c captures starts out r captures' starts' out'
  by-event = entered (λ t p q. record { event-is = p })

  pub by-options : Among true lo hi (Of e allowed) e c captures starts out r captures' starts' out' → lo ≤ e.name → e.name ≤ hi → Enters e allowed c captures starts out r captures' starts' out'
  by-options = entered (λ t p q. record { event-is = p; allowed-is = q })
