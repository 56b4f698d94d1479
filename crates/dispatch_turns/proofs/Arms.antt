-- An arm of a group of names, and the names that have none. Assumes nothing.
use Rattle.std.specs.Prelude.{if◌then◌else◌}
use mathlib.Core.Path.{◌≡◌, refl, sym, ap, ◌∙◌}
use mathlib.Core.Logic.{⊎_elim}
use mathlib.Core.Bool.{Bool, true, false, not, ◌||◌}
use mathlib.Core.List.{List, [], ◌∷◌}
use Prim.Native.Nat.{ℕ, zero, suc, suc-le-suc, ◌≤◌, ◌<◌}
use native.Mathlib.Nat.{le_of_suc-le-suc, not-suc-le-zero, eq-or-lt_of_le}
use borrow.Author.Tests.{le-ltb, ne_eqb}
use lib.Dec.{eqb, ltb}
use lib.ListN.{get_or}
use Rattle.lent.specs.Bytes.{one_of}
use Rattle.event.specs.declared.Event.{Event}
use Rattle.machine.specs.Turn.{Turn}
use Rattle.machine.specs.Command.{Command, nothing}
use Rattle.machine.specs.Handlers.{rows, on, command_in}
use Rattle.state_context.specs.declared.Context.{Context}
use Rattle.state_context.specs.Rel.{Any, Keeps, Takes, Opens, Begins, Ends, Turns}
use Rattle.state_context.proofs.Commands.{any, idle, narrow}
use Rattle.state_whole.specs.Quiet.{is_quiet}
use Rattle.dispatch_turns.specs.Turns.{command_for, Among}
use Rattle.dispatch_turns.proofs.Turns.{from-keeps, from-takes, from-opens, from-begins, from-ends, seen_as, command-is, dispatched}

-- the command at the enter (x true) or exit of a name
abbrev pub handler_at : (x : Bool) → ℕ → Command
handler_at x n = command_in x (get_or rows n (on nothing nothing))

-- ---- an arm

module _ {x : Bool} {lo hi : ℕ} {View : Turn → Type 0} {e : Event} {d : Command} {c r : Context} {captures starts out : List ℕ} where
  pub arm : {captures' starts' out' : List ℕ} (n : ℕ) → e.name ≡ n → handler_at x n ≡ d → Turns View d c captures starts out r captures' starts' out' → Among x lo hi View e c captures starts out r captures' starts' out'
  arm n p q k = record { among = λ h a b. dispatched (command-is e x n h p ∙ q) k }

  -- by the kind of its handler's contract
  pub keeping : {captures' out' : List ℕ} (n : ℕ) → e.name ≡ n → handler_at x n ≡ d → Keeps Any d c captures out r captures' out' → Among x lo hi View e c captures starts out r captures' starts out'
  keeping n p q k = arm n p q (from-keeps (any k))

  pub opening : {captures' starts' out' : List ℕ} (n : ℕ) → e.name ≡ n → handler_at x n ≡ d → Opens Any d c captures starts out r captures' starts' out' → Among x lo hi View e c captures starts out r captures' starts' out'
  opening n p q k = arm n p q (seen_as (λ t v. record {}) (from-opens k))

  pub beginning : {starts' : List ℕ} (n : ℕ) → e.name ≡ n → handler_at x n ≡ d → Begins d c starts r starts' → Among x lo hi View e c captures starts out r captures starts' out
  beginning n p q k = arm n p q (from-begins k)

  pub seeing : {Wide : Turn → Type 0} {captures' out' : List ℕ} (n : ℕ) → e.name ≡ n → handler_at x n ≡ d → ((t : Turn) → View t → Wide t) → Keeps Wide d c captures out r captures' out' → Among x lo hi View e c captures starts out r captures' starts out'
  seeing n p q f k = arm n p q (from-keeps (narrow f k))

  pub taking : {captures' out' : List ℕ} (n : ℕ) → e.name ≡ n → handler_at x n ≡ d → Takes Any d c captures starts out r captures' out' → Among x lo hi View e c captures starts out r captures' starts out'
  taking n p q k = arm n p q (seen_as (λ t v. record {}) (from-takes k))

  pub ending : (n : ℕ) → e.name ≡ n → handler_at x n ≡ d → Ends d c starts r → Among x lo hi View e c captures starts out r captures starts out
  ending n p q k = arm n p q (from-ends k)

-- ---- no arm

-- n is none of these, the last arm's first
abbrev pub NoneOf : List ℕ → ℕ → Type 0
NoneOf [] n = Unit
NoneOf (k ∷ ks) n = NoneOf ks n × (n ≡ k → ⊥)

pub no_arm : (arms : List ℕ) (n : ℕ) → NoneOf arms n → one_of arms n ≡ false
no_arm [] n h = refl
no_arm (k ∷ ks) n h = rw (ne_eqb n k h.1, no_arm ks n h.0)

-- what a name from lo on asks for beside the arms and what is another dispatcher's
abbrev pub unmet_by : (x : Bool) → (lo : ℕ) → List ℕ → ℕ → Command
unmet_by x lo arms n = if ltb n lo || (one_of arms n || not (is_quiet (handler_at x n))) then nothing else handler_at x n

asked : (a b q : Bool) (d : Command) → a ≡ false → b ≡ false → q ≡ true → (if a || (b || not q) then nothing else d) ≡ nothing → d ≡ nothing
asked a b q d x y z p = rw (x, y, z) at p

-- of each number below n: where two lists of these are the same, a computed test, each is
abbrev pub below : {A : Type 0} → ℕ → (ℕ → A) → List A
below zero f = []
below (suc n) f = f n ∷ below n f

pub each : {A : Type 0} (f g : ℕ → A) (n : ℕ) → below n f ≡ below n g → (k : ℕ) → k < n → f k ≡ g k
each f g zero p k h = absurd (not-suc-le-zero h)
each f g (suc n) p k h =
    let first : f n ≡ g n = cc in
    let others : below n f ≡ below n g = cc in
    ⊎_elim (λ e. ap f e ∙ first ∙ sym (ap g e)) (λ l. each f g n others k l) (eq-or-lt_of_le (le_of_suc-le-suc h))

pub rest : {x : Bool} {lo hi : ℕ} {View : Turn → Type 0} {e : Event} {c : Context} {captures starts out : List ℕ} (arms : List ℕ) → below (suc hi) (unmet_by x lo arms) ≡ below (suc hi) (λ k. nothing) → NoneOf arms e.name → Among x lo hi View e c captures starts out c captures starts out
rest {x} {lo} {hi} {e = e} arms p none =
    record {
      among = λ h a b.
          let n = e.name in
          let is : command_for e ≡ handler_at x n = command-is e x n h refl in
          record {
            dispatches = λ quiet.
                let z = asked (ltb n lo) (one_of arms n) (is_quiet (handler_at x n)) (handler_at x n) (le-ltb n lo a) (no_arm arms n none) (ap is_quiet (sym is) ∙ quiet) (each (unmet_by x lo arms) (λ k. nothing) (suc hi) p n (suc-le-suc b)) in
                (dispatched (is ∙ z) (from-keeps idle)).dispatches quiet;
          };
    }
