-- Each bit, by a computed test. Assumes nothing.
use Rattle.std.specs.Prelude.{if◌then◌else◌}
use mathlib.Core.Path.{◌≡◌, refl, sym, ◌∙◌}
use mathlib.Core.Bool.{Bool, true, false}
use Prim.Native.Nat.{ℕ, ◌/◌, ◌%◌, ◌^◌, ◌≤◌, ◌<◌}
use native.Mathlib.Omega.{arith}
use borrow.Author.Tests.{eq-eqb, ne_eqb}
use lib.Bits.{bit_and, and_mask}
use lib.Dec.{eqb}
use Rattle.event.specs.declared.Event.{Event}
use Rattle.event.specs.Event.{is_enter}
use Rattle.machine.specs.Command.{Command, nothing}
use Rattle.machine.specs.Handlers.{rows}
use Rattle.dispatch_turns.proofs.Turns.{command-is}
use Rattle.dispatch_turns.proofs.Arms.{handler_at, below, each}
use Rattle.run_next.specs.Idle.{Idles}

-- a bit of a word
abbrev pub bit : (word name : ℕ) → Bool
bit word name = eqb (word / 2 ^ name % 2) 1

-- the command of a name whose bit is set, else none
abbrev among : (x : Bool) → (word name : ℕ) → Command
among x word name = if bit word name then handler_at x name else nothing

enters : below 64 (among true 314826027790335) ≡ below 64 (λ n. nothing)
unfolding rows
enters = refl

exits : below 64 (among false 50397319) ≡ below 64 (λ n. nothing)
unfolding rows
exits = refl

none : (x : Bool) (word : ℕ) → below 64 (among x word) ≡ below 64 (λ n. nothing) → (n : ℕ) → n < 64 → bit word n ≡ true → handler_at x n ≡ nothing
none x word p n h q = let e = each (among x word) (λ n. nothing) 64 p n h in rw q at e

-- as the code has it
masked : (x : ℕ) → eqb (bit_and x 1) 1 ≡ true → eqb (x % 2) 1 ≡ true
masked x p = rw (and_mask x 1) at p

module _ {kind name : ℕ} where
  pub beyond : Idles kind name false
  beyond = record { idles = λ e p q r. absurd (no r) }
    where
      no : false ≡ true → ⊥
      no z = let y : ◌≡◌ {A = ℕ} 0 1 = cc in omega arith

  pub idle-enter : name ≤ 63 → kind ≡ 0 → Idles kind name (eqb (bit_and (314826027790335 / 2 ^ name) 1) 1)
  idle-enter h k = record {
    idles = λ e p q r.
        let x : is_enter e ≡ true = eq-eqb e.kind 0 (p ∙ k) in
        command-is e true name x q ∙ none true 314826027790335 enters name (omega arith) (masked (314826027790335 / 2 ^ name) r);
  }

  pub idle-exit : name ≤ 63 → (kind ≡ 0 → ⊥) → Idles kind name (eqb (bit_and (50397319 / 2 ^ name) 1) 1)
  idle-exit h k = record {
    idles = λ e p q r.
        let x : is_enter e ≡ false = ne_eqb e.kind 0 (λ z. k (sym p ∙ z)) in
        command-is e false name x q ∙ none false 50397319 exits name (omega arith) (masked (50397319 / 2 ^ name) r);
  }
