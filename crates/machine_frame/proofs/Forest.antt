-- Over the forest, in the pass that takes its turns: the first inside of a definition, the second outside. Assumes nothing.
use mathlib.Core.Path.{◌≡◌, sym, ap, ◌∙◌}
use mathlib.Core.Bool.{Bool, true, false}
use mathlib.Core.List.{List, ◌∷◌, ◌++◌}
use Prim.Native.Nat.{ℕ, suc, ◌≤◌}
use native.Mathlib.Omega.{arith}
use lib.Dec.{eqb}
use borrow.Author.Tests.{eqb-true, ne_eqb}
use Rattle.event.specs.declared.Event.{Event}
use Rattle.check_nesting.specs.Grammar.{name_of, holds}
use Rattle.check_nesting.specs.Nests.{Takes}
use Rattle.check_rules.specs.Elements.{Forest, list_of, Pair}
use Rattle.machine.specs.declared.Options.{Options}
use Rattle.machine.specs.Outcome.{go}
use Rattle.machine.specs.State.{State}
use Rattle.machine.specs.Turn.{Turn}
use Rattle.machine.specs.Run.{pass_from}
use Rattle.machine_clean.specs.Turns.{through}
use Rattle.machine_shape.specs.Shape.{Shape, idle, seq}
use Rattle.machine_shape.specs.Kinds.{contract_of, row_of}
use Rattle.machine_shape.specs.Grown.{Kinds, none, through as inside, child}
use Rattle.machine_shape.specs.Pass.{placed, behind, turn_at}
use Rattle.machine_shape.proofs.Test.{kind-named, quiet-fits, definition-idle}
use Rattle.machine_shape.proofs.Walk.{walk_split}
use Rattle.machine_shape.proofs.Pass.{pass-next, definition-over}
use Rattle.machine_shape.proofs.Calm.{in-definition, paired}
use Rattle.machine_shape.proofs.Run.{decide, enter-command, exit-command}
use Rattle.machine_shape.proofs.Forest.{Clear, clear-parts, clear-so}
use Rattle.machine_frame.proofs.Holds.{Does, Holds, holds_later, holds-does, holds-less, holds_after, holds-idle}
use Rattle.machine_frame.proofs.Run.{Leads, Reached, quiet, around}

module _ (text : List ℕ) (o : Options) (d : Bool) where
  abbrev pub Pass : ℕ → List Event → List Event → List Turn
  Pass p before es = pass_from d text o d p before es

  module _ (a z : Event) (f : Forest) (r : Pair a z) (p : ℕ) (before es : List Event) (tail : List Turn) (v : State) where
    abbrev P₂ : ℕ
    P₂ = placed f (suc p)

    abbrev Before₂ : List Event
    Before₂ = behind f (a ∷ before)

    -- the enter of one of 0 to 4, and its exit
    pub thin-enter : (s : State) → a.name ≤ 4 → through (Pass p before (a ∷ list_of f (z ∷ es)) ++ tail) s ≡ go v → Reached (Does idle s) (Pass (suc p) (a ∷ before) (list_of f (z ∷ es)) ++ tail) v
    thin-enter s m run =
        quiet text o (turn_at text o p before a (list_of f (z ∷ es))) (row_of a.name).enter (Pass p before (a ∷ list_of f (z ∷ es))) (Pass (suc p) (a ∷ before) (list_of f (z ∷ es))) tail s v
        (enter-command text o (λ s. Unit {0}) p before a (list_of f (z ∷ es)) r.0) (pass-next text o p before a (list_of f (z ∷ es)) d (ne_eqb a.name 53 (λ e. absurd (omega arith)))) (quiet-fits a.name m).0 run

    pub thin-exit : (s : State) → a.name ≤ 4 → through (Pass P₂ Before₂ (z ∷ es) ++ tail) s ≡ go v → Reached (Does idle s) (Pass (suc P₂) (z ∷ Before₂) es ++ tail) v
    thin-exit s m run =
        let n : eqb z.name 53 ≡ false = rw r.2 (ne_eqb a.name 53 (λ e. absurd (omega arith))) in
        quiet text o (turn_at text o P₂ Before₂ z es) (row_of a.name).exit (Pass P₂ Before₂ (z ∷ es)) (Pass (suc P₂) (z ∷ Before₂) es) tail s v
        (exit-command text o (λ s. Unit {0}) P₂ Before₂ z es r.1 ∙ ap (λ (n : ℕ). (row_of n).exit) r.2) (pass-next text o P₂ Before₂ z es d n) (quiet-fits a.name m).1 run

    -- an element of a kind; a definition is jumped over
    pub thick : (j : ℕ) {ks : List ℕ} (s : State) → a.name ≡ name_of j → 5 ≤ name_of j → Takes (holds j) ks → Kinds ks f → (eqb a.name 53 ≡ true → d ≡ false)
        → ((x y : Shape) (u : State) → Leads ks x y → Holds x s u → through (Pass (suc p) (a ∷ before) (list_of f (z ∷ es)) ++ tail) u ≡ go v → Reached (Holds y s) (Pass P₂ Before₂ (z ∷ es) ++ tail) v)
        → through (Pass p before (a ∷ list_of f (z ∷ es)) ++ tail) s ≡ go v → Reached (Does (contract_of j).does s) (Pass (suc P₂) (z ∷ Before₂) es ++ tail) v
    thick j {ks} s e l tk kf so within run = decide (eqb a.name 53)
        (λ is. let i : j ≡ 53 = kind-named j (sym e ∙ eqb-true a.name 53 is) in
        let k : Takes (holds 53) ks = rw i at tk in
        let jump : Pass p before (a ∷ list_of f (z ∷ es)) ≡ Pass (suc P₂) (z ∷ Before₂) es = rw (so is) (definition-over text o a f z p before es is r (paired kf) (in-definition k kf)) in
        (s, rw i (holds-does idle (contract_of 53).does s s definition-idle (holds-idle s)), rw jump at run))
        (λ isn't. let n : eqb z.name 53 ≡ false = rw r.2 isn't in
        around text o j a z e l r tk s v p P₂ before Before₂ (list_of f (z ∷ es)) es (Pass p before (a ∷ list_of f (z ∷ es))) (Pass (suc p) (a ∷ before) (list_of f (z ∷ es))) (Pass P₂ Before₂ (z ∷ es)) (Pass (suc P₂) (z ∷ Before₂) es) tail
        (pass-next text o p before a (list_of f (z ∷ es)) d isn't) (pass-next text o P₂ Before₂ z es d n) within run)

  -- children lead from a shape to another
  pub along : {ks : List ℕ} {f : Forest} → Kinds ks f → Clear d f → (x y : Shape) → Leads ks x y → (b s v : State) (p : ℕ) (before es : List Event) (tail : List Turn)
      → Holds x b s → through (Pass p before (list_of f es) ++ tail) s ≡ go v → Reached (Holds y b) (Pass (placed f p) (behind f before) es ++ tail) v
  along none c x y w b s v p before es tail h run = (s, w b s h, run)
  along (inside {a} {z} {ks} {ls} {f} {g} m r kf kg) c x y w b s v p before es tail h run =
      let cs = clear-parts d a f z g c in
      let ws = walk_split Holds holds-less 1 ks ls x y w in
      let k₁ = thin-enter a z f r p before (list_of g es) tail v s m run in
      let k₂ = along kf cs.0 x ws.0 ws.1 b k₁.0 v (suc p) (a ∷ before) (z ∷ list_of g es) tail (holds_after x b s k₁.0 h k₁.1) k₁.2 in
      let k₃ = thin-exit a z f r p before (list_of g es) tail v k₂.0 m k₂.2 in
      along kg cs.1 ws.0 y ws.2 b k₃.0 v (suc (placed f (suc p))) (z ∷ behind f (a ∷ before)) es tail (holds_after ws.0 b k₂.0 k₃.0 k₂.1 k₃.1) k₃.2
  along (child {a} {z} {k = j} {ks} {ls} {f} {g} e l r tk kf kg) c x y (w, weak, meet, tiny, rest) b s v p before es tail h run =
      let cs = clear-parts d a f z g c in
      let k = thick a z f r p before (list_of g es) tail v j s e l tk kf (clear-so d a f z g c) (λ x₁ y₁ u w₁ h₁ run₁. along kf cs.0 x₁ y₁ w₁ s u v (suc p) (a ∷ before) (z ∷ list_of g es) tail h₁ run₁) run in
      along kg cs.1 (seq w (contract_of j).does) y rest b k.0 v (suc (placed f (suc p))) (z ∷ behind f (a ∷ before)) es tail (holds_later w (contract_of j) b s k.0 meet (weak b s h) k.1) k.2
