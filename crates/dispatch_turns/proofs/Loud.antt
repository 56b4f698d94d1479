-- An arm of a group of names over the whole, and the names that have none. Assumes nothing.
use mathlib.Core.Path.{◌≡◌, refl, sym, ap, ◌∙◌}
use mathlib.Core.Bool.{Bool, true, false, not, ◌||◌}
use mathlib.Core.List.{List}
use Prim.Native.Nat.{ℕ, suc, suc-le-suc, ◌≤◌}
use native.Mathlib.Omega.{arith}
use borrow.Author.Tests.{le-ltb}
use lib.Dec.{ltb}
use Rattle.lent.specs.Bytes.{one_of}
use Rattle.event.specs.declared.Event.{Event}
use Rattle.event.specs.Event.{is_enter}
use Rattle.machine.specs.Turn.{Turn}
use Rattle.machine.specs.Command.{Command}
use Rattle.state_whole.specs.declared.Whole.{Whole}
use Rattle.state_whole.specs.Quiet.{is_quiet}
use Rattle.state_whole.specs.Whole.{World, Handles}
use Rattle.dispatch_turns.specs.Turns.{command_for}
use Rattle.dispatch_turns.specs.Loud.{Spare, Acts}
use Rattle.dispatch_turns.proofs.Turns.{command-is}
use Rattle.dispatch_turns.proofs.Arms.{handler_at, NoneOf, no_arm, below, each}

-- whether an event's command is quiet, by its name
pub quiet_by : {x : Bool} {hi : ℕ} (loud : ℕ → Bool) (e : Event) → ((n : ℕ) → n ≤ hi → is_quiet (handler_at x n) ≡ not (loud n)) → is_enter e ≡ x → e.name ≤ hi → is_quiet (command_for e) ≡ not (loud e.name)
quiet_by {x} loud e q h k = ap is_quiet (command-is e x e.name h refl) ∙ q e.name k

module _ {x : Bool} {lo hi : ℕ} {text : List ℕ} {View : Turn → Type 0} {e : Event} {b : Whole} {w : World} where
  pub acting : {N : Whole → Type 0} {Wide : Turn → Type 0} {d : Command} {r : Whole} {w' : World} (n : ℕ) → e.name ≡ n → handler_at x n ≡ d → (Spare b → N b) → ((t : Turn) → View t → Wide t) → Handles text N Wide d b w r w' → Acts x lo hi text View e b w r w'
  acting n p q f g k = record {
    acts = λ h a c l. (let is = command-is e x n h p ∙ q in rw is (record { handles = λ t s u v z y m. k.handles t s u (g t v) (f z) y m }));
  }

  -- no arm: the command is quiet, and another dispatcher's, where each name of a command that is not has an arm: a computed test
  pub still : (loud : ℕ → Bool) → ((n : ℕ) → n ≤ hi → is_quiet (handler_at x n) ≡ not (loud n)) → (arms : List ℕ) → below (suc hi) (λ n. ltb n lo || (one_of arms n || not (loud n))) ≡ below (suc hi) (λ n. true) → NoneOf arms e.name → Acts x lo hi text View e b w b w
  still loud q arms p none =
      record {
        acts = λ h a c l.
            let n = e.name in
            let y = met (ltb n lo) (one_of arms n) (not (loud n)) (le-ltb n lo a) (no_arm arms n none) (each (λ n. ltb n lo || (one_of arms n || not (loud n))) (λ n. true) (suc hi) p n (suc-le-suc c)) in
            absurd (never (sym (quiet_by loud e q h c ∙ y) ∙ l));
      }
    where
      met : (a b q : Bool) → a ≡ false → b ≡ false → (a || (b || q)) ≡ true → q ≡ true
      met a b q y z m = rw (y, z) at m

      never : true ≡ false → ⊥
      never z = let y : ◌≡◌ {A = ℕ} 1 0 = cc in omega arith
