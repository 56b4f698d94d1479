-- What a turn shows, as the handlers are told it, and how a group's promise becomes the whole's. Assumes nothing.
use mathlib.Core.Path.{◌≡◌, refl, ◌∙◌}
use mathlib.Core.Bool.{Bool, true, false, ◌&&◌, ◌||◌}
use mathlib.Core.List.{List}
use Prim.Native.Nat.{ℕ, ◌≤◌}
use native.Mathlib.Omega.{arith}
use borrow.Author.Tests.{ltb-false, lt-ltb}
use lib.Dec.{ltb}
use Rattle.event.specs.declared.Event.{Event}
use Rattle.event.specs.Event.{event_at}
use Rattle.machine.specs.declared.Options.{Options}
use Rattle.machine.specs.Turn.{Turn, look_back}
use Rattle.machine.specs.Command.{Command}
use Rattle.dispatch_look_back.specs.Behind.{events_before, name_of, is_after_fence}
use Rattle.dispatch_look_back.proofs.Laws.{name-is, fence-is}
use Rattle.state_context.specs.declared.Context.{Context}
use Rattle.state_context.specs.Rel.{Any, Sees, FenceBefore, Keeps, Renews}
use Rattle.state_context.proofs.Commands.{narrow}
use Rattle.on_list.specs.Lists.{IsOrdered, LooksBack}
use Rattle.dispatch_turns.specs.Turns.{TurnAt, Among}
use Rattle.dispatch_turns.proofs.Turns.{seen_as}
use Rattle.dispatch_turns.proofs.Arms.{handler_at, arm}
use Rattle.dispatch_exit_block.specs.Exits.{is_in_line, ExitsBlock}
use Rattle.dispatch_exit_block.specs.Private.{After, Here}

-- ---- views

module _ {text : List ℕ} {e : Event} where
  pub ordered : e.name ≡ 21 → (t : Turn) → Sees text e t → IsOrdered true t
  ordered p t v = record { ordered-is = rw (v.event-is, p) }

  pub unordered : e.name ≡ 22 → (t : Turn) → Sees text e t → IsOrdered false t
  unordered p t v = record { ordered-is = rw (v.event-is, p) }

  pub itself : (t : Turn) → Sees text e t → Sees text e t
  itself t v = v

  module _ {events : List ℕ} {i : ℕ} where
    pub of-event : (t : Turn) → Here text events i e t → Sees text e t
    of-event t v = v.sees

    pub of-place : (t : Turn) → Here text events i e t → After events i t
    of-place t v = v.after

-- by what was asked of the events before
module _ {events : List ℕ} {i : ℕ} {d : Command} {c r : Context} {w o w' o' : List ℕ} where
  pub looked : {n : ℕ} → n ≡ name_of (look_back 0 (events_before events i)) → Keeps (LooksBack n) d c w o r w' o' → Keeps (After events i) d c w o r w' o'
  looked q k = narrow (λ t v. record { behind-is = name-is events i t.before v.before-is q }) k

  pub fenced : {x : Bool} → x ≡ is_after_fence (events_before events i) → Keeps (FenceBefore x) d c w o r w' o' → Keeps (After events i) d c w o r w' o'
  fenced q k = narrow (λ t v. record { fence-is = fence-is events i t.before v.before-is q }) k

-- ---- names

neither : (x y : Bool) → (x || y) ≡ false → (x ≡ false) × (y ≡ false)
neither true y p = let z : ◌≡◌ {A = ℕ} 0 1 = cc in absurd (omega arith)
neither false y p = (refl, p)

pub from-blocks : (n : ℕ) → is_in_line n ≡ false → 12 ≤ n
from-blocks n p = ltb-false n 12 (neither (ltb n 12) (ltb 32 n && ltb n 45) p).0

pub from-links : (n : ℕ) → 33 ≤ n → is_in_line n ≡ false → 45 ≤ n
from-links n h p =
    let q = (neither (ltb n 12) (ltb 32 n && ltb n 45) p).1 in
    ltb-false n 45 (rw (lt-ltb 32 n (omega (arith, h))) at q)

-- ---- a group's promise is the whole's

module _ {lo hi : ℕ} {text events : List ℕ} {i : ℕ} {e : Event} {c r : Context} {captures starts out captures' starts' out' : List ℕ} where
  exited : {View : Turn → Type 0} → ((o : Options) → event_at events i ≡ e → (t : Turn) → TurnAt text events o i t → View t) → (is_in_line e.name ≡ false → lo ≤ e.name) → e.name ≤ hi → Among false lo hi View e c captures starts out r captures' starts' out' → ExitsBlock text events i e c captures starts out r captures' starts' out'
  exited f a b k = record { exits = λ o p h n. record { dispatches = λ quiet. seen_as (f o p) ((k.among h (a n) b).dispatches quiet) } }

  pub by-event : (is_in_line e.name ≡ false → lo ≤ e.name) → e.name ≤ hi → Among false lo hi (Sees text e) e c captures starts out r captures' starts' out' → ExitsBlock text events i e c captures starts out r captures' starts' out'
  by-event = exited (λ o p t v. record { text-is = v.text-is; event-is = v.event-is ∙ p })

  pub by_place : (is_in_line e.name ≡ false → lo ≤ e.name) → e.name ≤ hi → Among false lo hi (Here text events i e) e c captures starts out r captures' starts' out' → ExitsBlock text events i e c captures starts out r captures' starts' out'
  by_place = exited (λ o p t v. record { sees = record { text-is = v.text-is; event-is = v.event-is ∙ p }; after = record { before-is = v.before-is } })

  pub by_name : (is_in_line e.name ≡ false → lo ≤ e.name) → e.name ≤ hi → Among false lo hi Any e c captures starts out r captures' starts' out' → ExitsBlock text events i e c captures starts out r captures' starts' out'
  by_name = exited (λ o p t v. record {})

-- an arm that takes a capture off and opens another
pub renewing : {lo hi : ℕ} {View : Turn → Type 0} {e : Event} {d : Command} {c r : Context} {captures starts out starts' : List ℕ} (n : ℕ) → e.name ≡ n → handler_at false n ≡ d → Renews d c starts r starts' → Among false lo hi View e c captures starts out r captures starts' out
renewing {captures = captures} {out = out} n p q k = arm n p q (seen_as (λ t v. record {}) (k.renews captures out))
