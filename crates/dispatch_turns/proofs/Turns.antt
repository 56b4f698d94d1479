-- Each kind of a handler's contract as a dispatcher's, and an event's command by its name. Assumes nothing.
use mathlib.Core.Path.{◌≡◌, refl, sym, ap, ◌∙◌}
use mathlib.Core.Bool.{Bool, true, false}
use mathlib.Core.List.{List}
use Prim.Native.Nat.{ℕ}
use native.Mathlib.Omega.{arith}
use lib.ListN.{get_or}
use Rattle.event.specs.declared.Event.{Event}
use Rattle.event.specs.Event.{is_enter}
use Rattle.machine.specs.Turn.{Turn}
use Rattle.machine.specs.Command.{Command, nothing}
use Rattle.machine.specs.Handlers.{rows, on, command_in, command_of}
use Rattle.state_context.specs.declared.Context.{Context}
use Rattle.state_context.specs.Rel.{Any, Keeps, Takes, Opens, Sets, SetsFor, Begins, Ends, Turns}
use Rattle.state_whole.specs.Quiet.{is_quiet}
use Rattle.dispatch_turns.specs.Turns.{command_for, Dispatches}

module _ {View : Turn → Type 0} {d : Command} {c r : Context} {captures starts out captures' out' : List ℕ} where
  pub from-keeps : Keeps View d c captures out r captures' out' → Turns View d c captures starts out r captures' starts out'
  from-keeps k = record { turns = λ t s u v l n x p. k.keeps t starts s u v x p }

  pub from-takes : Takes View d c captures starts out r captures' out' → Turns View d c captures starts out r captures' starts out'
  from-takes k = record { turns = λ t s u v l n x p. k.takes t s u v l x p }

  pub from-opens : {starts' : List ℕ} → Opens View d c captures starts out r captures' starts' out' → Turns View d c captures starts out r captures' starts' out'
  from-opens k = record { turns = λ t s u v l n x p. k.opens t s u v n x p }

module _ {View : Turn → Type 0} {d : Command} {c r : Context} {captures starts out : List ℕ} where
  pub from-sets : Sets d c r → Turns View d c captures starts out r captures starts out
  from-sets k = record { turns = λ t s u v l n x p. (k.sets captures out).keeps t starts s u (record {}) x p }

  pub from-sets-for : SetsFor View d c r → Turns View d c captures starts out r captures starts out
  from-sets-for k = record { turns = λ t s u v l n x p. (k.sets captures out).keeps t starts s u v x p }

  pub from-begins : {starts' : List ℕ} → Begins d c starts r starts' → Turns View d c captures starts out r captures starts' out
  from-begins k = record { turns = λ t s u v l n x p. (k.begins captures out).opens t s u (record {}) n x p }

  pub from-ends : Ends d c starts r → Turns View d c captures starts out r captures starts out
  from-ends k = record { turns = λ t s u v l n x p. (k.ends captures out).takes t s u (record {}) l x p }

-- by what a turn shows
pub seen_as : {View Wide : Turn → Type 0} {d : Command} {c r : Context} {captures starts out captures' starts' out' : List ℕ} → ((t : Turn) → View t → Wide t) → Turns Wide d c captures starts out r captures' starts' out' → Turns View d c captures starts out r captures' starts' out'
seen_as f k = record { turns = λ t s u v l n x p. k.turns t s u (f t v) l n x p }

-- ---- an event's command

-- of the enter or exit of a name
pub command-is : (e : Event) (x : Bool) (n : ℕ) → is_enter e ≡ x → e.name ≡ n → command_for e ≡ command_in x (get_or rows n (on nothing nothing))
unfolding command_for
command-is e x n p q = rw (p, q)

-- an event's turn has its command
pub command-of : (t : Turn) (e : Event) → t.event ≡ e → command_of t ≡ command_for e
unfolding command_of command_for
command-of t e p = rw p

-- the handler of that command, for the event
pub dispatched : {View : Turn → Type 0} {e : Event} {d : Command} {c r : Context} {captures starts out captures' starts' out' : List ℕ} → command_for e ≡ d → Turns View d c captures starts out r captures' starts' out' → Dispatches View e c captures starts out r captures' starts' out'
dispatched p k = record { dispatches = λ q. rw p k }

-- a command that is not quiet is another dispatcher's
pub not-quiet : {View : Turn → Type 0} {e : Event} {d : Command} {c r : Context} {captures starts out captures' starts' out' : List ℕ} → command_for e ≡ d → is_quiet d ≡ false → Dispatches View e c captures starts out r captures' starts' out'
not-quiet {e = e} p h = record { dispatches = λ q. absurd (loud (sym (ap is_quiet p ∙ h) ∙ q)) }
  where
    loud : false ≡ true → ⊥
    loud z = let y : ◌≡◌ {A = ℕ} 0 1 = cc in omega arith
