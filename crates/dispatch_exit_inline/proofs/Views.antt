-- What a turn shows, as the handlers are told it. Assumes nothing.
use mathlib.Core.Path.{◌≡◌, ◌∙◌}
use mathlib.Core.Bool.{Bool}
use mathlib.Core.List.{List}
use Prim.Native.Nat.{ℕ, suc, ◌+◌, ◌/◌}
use native.Mathlib.Numerals.{add-one}
use lib.Dec.{eqb}
use lib.ListN.{length}
use Rattle.event.specs.declared.Event.{Event}
use Rattle.event.specs.Event.{event_at}
use Rattle.machine.specs.declared.Options.{Options}
use Rattle.machine.specs.Turn.{Turn, is_after_definition}
use Rattle.machine.specs.Command.{Command}
use Rattle.dispatch_look_back.specs.Behind.{events_before}
use Rattle.dispatch_look_back.proofs.Laws.{definition-is}
use Rattle.state_context.specs.declared.Context.{Context}
use Rattle.state_context.specs.Rel.{Sees, SeesEnding, IsLast, Keeps}
use Rattle.state_context.proofs.Commands.{narrow}
use Rattle.on_inline.specs.View.{SeesWith}
use Rattle.dispatch_turns.specs.Turns.{TurnAt, Dispatches}
use Rattle.dispatch_turns.proofs.Turns.{seen_as}
use Rattle.dispatch_exit_inline.specs.Group.{At, Here}

pub of-here : {text events : List ℕ} {i : ℕ} {e : Event} (t : Turn) → Here text events i e t → Sees text e t
of-here t v = v.sees

pub at_here : {text events : List ℕ} {i : ℕ} {e : Event} (t : Turn) → Here text events i e t → At events i t
at_here t v = v.there

pub of-with : {text : List ℕ} {e : Event} {o : Options} (t : Turn) → SeesWith text e o t → Sees text e t
of-with t v = v.sees

module _ {text events : List ℕ} {i : ℕ} {e : Event} {o : Options} (p : event_at events i ≡ e) where
  pub here : (t : Turn) → TurnAt text events o i t → Here text events i e t
  here t v = record { sees = record { text-is = v.text-is; event-is = v.event-is ∙ p }; there = record { before-is = v.before-is; last-is = v.last-is } }

  pub with-options : (t : Turn) → TurnAt text events o i t → SeesWith text e o t
  with-options t v = record { sees = record { text-is = v.text-is; event-is = v.event-is ∙ p }; options-are = v.options-are }

-- ---- by what was asked of the events

pub behind : {text events : List ℕ} {i : ℕ} {e : Event} {d : Command} {c r : Context} {w o w' o' : List ℕ} {x : Bool} → x ≡ is_after_definition (events_before events i) → Keeps (SeesEnding text e x) d c w o r w' o' → Keeps (Here text events i e) d c w o r w' o'
behind {events = events} {i = i} p k = narrow (λ t v. record { sees = v.sees; behind-is = definition-is events i t.before v.there.before-is p }) k

pub at-end : {events : List ℕ} {i n : ℕ} {d : Command} {c r : Context} {w o w' o' : List ℕ} → n ≡ length events / 20 → Keeps (IsLast (eqb (i + 1) n)) d c w o r w' o' → Keeps (At events i) d c w o r w' o'
at-end {i = i} p k = narrow (λ t v. record { last-is = rw (p, add-one i) v.last-is }) k

-- ---- the whole

-- by what a turn shows
pub shown : {View Wide : Turn → Type 0} {e : Event} {c r : Context} {captures starts out captures' starts' out' : List ℕ} → ((t : Turn) → View t → Wide t) → Dispatches Wide e c captures starts out r captures' starts' out' → Dispatches View e c captures starts out r captures' starts' out'
shown f k = record { dispatches = λ q. seen_as f (k.dispatches q) }
