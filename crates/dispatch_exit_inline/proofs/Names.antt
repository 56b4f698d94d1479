-- The two groups of names together. Assumes nothing.
use mathlib.Core.Path.{◌≡◌, refl}
use mathlib.Core.Bool.{Bool, true, false, ◌&&◌}
use mathlib.Core.List.{List}
use Prim.Native.Nat.{ℕ, ◌≤◌, ◌<◌}
use native.Mathlib.Omega.{arith}
use borrow.Author.Tests.{le-ltb, ltb-true}
use lib.Dec.{ltb}
use Rattle.event.specs.declared.Event.{Event}
use Rattle.machine.specs.declared.Options.{Options}
use Rattle.state_context.specs.declared.Context.{Context}
use Rattle.on_inline.specs.View.{SeesWith}
use Rattle.dispatch_turns.specs.Turns.{Among}
use Rattle.dispatch_exit_inline.specs.Exits.{is_text, ExitsInline}
use Rattle.dispatch_exit_inline.specs.Group.{Here}
use Rattle.dispatch_exit_inline.proofs.Views.{here, with-options, shown}

both : (x y : Bool) → (x && y) ≡ true → (x ≡ true) × (y ≡ true)
both true y p = (refl, p)
both false y p = let z : ◌≡◌ {A = ℕ} 0 1 = cc in absurd (omega arith)

inline-names : (n : ℕ) → 12 ≤ n → is_text n ≡ true → (33 ≤ n) × (n ≤ 44)
inline-names n h p =
    let b = both (ltb 32 n) (ltb n 45) (rw (le-ltb n 12 h) at p) in
    let l = ltb-true 32 n b.0 in
    let m = ltb-true n 45 b.1 in
    (omega arith, omega arith)

module _ {text events : List ℕ} {o : Options} {i : ℕ} {e : Event} {c r : Context} {captures starts out captures' starts' out' : List ℕ} where
  pub low : e.name < 12 → Among false 0 11 (Here text events i e) e c captures starts out r captures' starts' out' → ExitsInline text events o i e c captures starts out r captures' starts' out'
  low h k = record { exits = λ p x y. shown (here p) (k.among x (omega arith) (omega arith)) }

  pub high : 12 ≤ e.name → Among false 33 44 (SeesWith text e o) e c captures starts out r captures' starts' out' → ExitsInline text events o i e c captures starts out r captures' starts' out'
  high h k = record { exits = λ p x y. shown (with-options p) (k.among x (inline-names e.name h y).0 (inline-names e.name h y).1) }
