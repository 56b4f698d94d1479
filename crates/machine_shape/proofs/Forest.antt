-- Over the forest: from a state that fits its place the turns of an element go on, and end in one that fits the next. Assumes nothing.
use mathlib.Core.Path.{◌≡◌, refl, sym, ap, ◌∙◌}
use mathlib.Core.Bool.{Bool, true, false}
use mathlib.Core.List.{List, ◌∷◌, ◌++◌}
use Prim.Native.Nat.{ℕ, suc, ◌+◌, ◌≤◌}
use native.Mathlib.Nat.{le-max_left, le-max_right}
use native.Mathlib.Omega.{arith}
use lib.Dec.{T, eqb}
use borrow.Author.Tests.{eqb-true, ne_eqb}
use Rattle.event.specs.declared.Event.{Event}
use Rattle.event.specs.Event.{is_enter}
use Rattle.check_nesting.specs.Grammar.{name_of, holds}
use Rattle.check_nesting.specs.Nests.{Takes}
use Rattle.check_rules.specs.Elements.{Forest, element, list_of, Pair}
use Rattle.check_rules.proofs.Before.{clash}
use Rattle.machine.specs.declared.Options.{Options}
use Rattle.machine.specs.State.{State}
use Rattle.machine.specs.Turn.{Turn}
use Rattle.machine.specs.Run.{pass_from}
use Rattle.machine_shape.specs.Shape.{Shape, Rel, Low, idle, seq}
use Rattle.machine_shape.specs.Acts.{Ready}
use Rattle.machine_shape.specs.Fits.{small, meets, every}
use Rattle.machine_shape.specs.Kinds.{contract_of, row_of}
use Rattle.machine_shape.specs.Right.{Few}
use Rattle.machine_shape.specs.Grown.{Kinds, none, through, child, deep, Element, thin, thick}
use Rattle.machine_shape.specs.Pass.{placed, behind, NoDefinition, turn_at}
use Rattle.machine_shape.proofs.Says.{both}
use Rattle.machine_shape.proofs.Rel.{rel-later, rel-less, rel-idle, ready, low}
use Rattle.machine_shape.proofs.Test.{kind-named, quiet-fits, definition-idle}
use Rattle.machine_shape.proofs.Walk.{Walk, walk_split}
use Rattle.machine_shape.proofs.Pass.{pass-next, definition-over}
use Rattle.machine_shape.proofs.Calm.{every_item, kinds-taken, every-split, in-definition, paired}
use Rattle.machine_shape.proofs.Run.{decide, Ends, RightAt, Took, enter-command, exit-command, quiet, around}

-- in the first pass, inside a definition, there is no other
abbrev pub Clear : Bool → Forest → Type 0
Clear true f = NoDefinition f
Clear false f = Unit {0}

pub clear-parts : (d : Bool) (a : Event) (f : Forest) (z : Event) (g : Forest) → Clear d (element a f z g) → Clear d f × Clear d g
clear-parts true a f z g c = (c.1, c.2)
clear-parts false a f z g c = (tt, tt)

pub clear-so : (d : Bool) (a : Event) (f : Forest) (z : Event) (g : Forest) → Clear d (element a f z g) → eqb a.name 53 ≡ true → d ≡ false
clear-so true a f z g c e = clash e c.0
clear-so false a f z g c e = refl

module _ (text : List ℕ) (o : Options) (Q : State → Type 0) where
  -- Inv is any statement on a place, the events before it and from it on, and the state there: it gives what a turn's values need, turns keep it, and so does the jump over a definition
  -- for elements of some kinds, which hold no others
  pub record Kept (d : Bool) (c : ℕ → Bool) (Inv : ℕ → List Event → List Event → State → Type 0) : Type 0 where
    pub closed : (k : ℕ) → 5 ≤ name_of k → T (c k) → T (every_item c (holds k))
    pub enters : (p : ℕ) (before : List Event) (e : Event) (es : List Event) (s : State) → is_enter e ≡ true → Inv p before (e ∷ es) s → RightAt text o Q p before e es s
    pub entered : (p : ℕ) (before : List Event) (e : Event) (es : List Event) (s u : State) → is_enter e ≡ true → eqb e.name 53 ≡ false → Inv p before (e ∷ es) s → Took text o Q p before e es s u → Inv (suc p) (e ∷ before) es u
    pub leaves : (p : ℕ) (before : List Event) (a : Event) (f : Forest) (z : Event) (es : List Event) (s : State) → Element c a f z → eqb a.name 53 ≡ false
        → Inv (placed f (suc p)) (behind f (a ∷ before)) (z ∷ es) s → RightAt text o Q (placed f (suc p)) (behind f (a ∷ before)) z es s
    pub left : (p : ℕ) (before : List Event) (a : Event) (f : Forest) (z : Event) (es : List Event) (s u : State) → Element c a f z → eqb a.name 53 ≡ false
        → Inv (placed f (suc p)) (behind f (a ∷ before)) (z ∷ es) s → Took text o Q (placed f (suc p)) (behind f (a ∷ before)) z es s u → Inv (suc (placed f (suc p))) (z ∷ behind f (a ∷ before)) es u
    pub over : (p : ℕ) (before : List Event) (a : Event) (f : Forest) (z : Event) (es : List Event) (s : State) {ks : List ℕ} → d ≡ false → a.name ≡ 53 → Pair a z → Takes (holds 53) ks → Kinds ks f → Ready (contract_of 53) s
        → Inv p before (a ∷ list_of f (z ∷ es)) s → Inv (suc (placed f (suc p))) (z ∷ behind f (a ∷ before)) es s

  module _ (d : Bool) (c : ℕ → Bool) (Inv : ℕ → List Event → List Event → State → Type 0) (keeps : Kept d c Inv) where
    abbrev Pass : ℕ → List Event → List Event → List Turn
    Pass p before es = pass_from d text o d p before es

    -- from a state with the shape x a forest goes on to one with the shape y
    abbrev pub Along : (f : Forest) (n k : ℕ) (b : State) (x y : Shape) (p : ℕ) (before es : List Event) (tail : List Turn) (s : State) → Type 0
    Along f n k b x y p before es tail s =
        Rel x b s → Low (k + n) s → Few s.kept → Inv p before (list_of f es) s
        → ((u : State) → Rel y b u → Low (k + n) u → Few u.kept → Inv (placed f p) (behind f before) es u → Ends text o Q (Pass (placed f p) (behind f before) es ++ tail) u)
        → Ends text o Q (Pass p before (list_of f es) ++ tail) s

    module _ (a z : Event) (f g : Forest) {ks : List ℕ} (kf : Kinds ks f) (r : Pair a z) (n k : ℕ) (b : State) (base : Low k b) (x y : Shape) (p : ℕ) (before es : List Event) (tail : List Turn) (s : State) where
      abbrev P₂ : ℕ
      P₂ = placed f (suc p)

      abbrev Before₂ : List Event
      Before₂ = behind f (a ∷ before)

      thin-along : (mid : Shape) → a.name ≤ 4 → k + n ≤ 64
          → ((u : State) → Along f n k b x mid (suc p) (a ∷ before) (z ∷ list_of g es) tail u)
          → ((u : State) → Along g n k b mid y (suc P₂) (z ∷ Before₂) es tail u)
          → Along (element a f z g) n k b x y p before es tail s
      thin-along mid m room inside beyond h l w i more =
          let na : eqb a.name 53 ≡ false = ne_eqb a.name 53 (λ e. absurd (omega arith)) in
          let nz : eqb z.name 53 ≡ false = rw r.2 na in
          let q = quiet-fits a.name m in
          quiet text o Q n k b room base (turn_at text o p before a (list_of f (z ∷ list_of g es))) (row_of a.name).enter (Pass p before (a ∷ list_of f (z ∷ list_of g es))) (Pass (suc p) (a ∷ before) (list_of f (z ∷ list_of g es))) tail x s
          (enter-command text o Q p before a (list_of f (z ∷ list_of g es)) r.0) (pass-next text o p before a (list_of f (z ∷ list_of g es)) d na) q.0 h l w (keeps.enters p before a (list_of f (z ∷ list_of g es)) s r.0 i)
          (λ u₁ q₁ h₁ l₁ w₁. inside u₁ h₁ l₁ w₁ (keeps.entered p before a (list_of f (z ∷ list_of g es)) s u₁ r.0 na i q₁)
          (λ u₂ h₂ l₂ w₂ i₂. quiet text o Q n k b room base (turn_at text o P₂ Before₂ z (list_of g es)) (row_of a.name).exit (Pass P₂ Before₂ (z ∷ list_of g es)) (Pass (suc P₂) (z ∷ Before₂) (list_of g es)) tail mid u₂
          (exit-command text o Q P₂ Before₂ z (list_of g es) r.1 ∙ ap (λ (n : ℕ). (row_of n).exit) r.2) (pass-next text o P₂ Before₂ z (list_of g es) d nz) q.1 h₂ l₂ w₂
          (keeps.leaves p before a f z (list_of g es) u₂ (thin m r kf) na i₂)
          (λ u₃ q₃ h₃ l₃ w₃. beyond u₃ h₃ l₃ w₃ (keeps.left p before a f z (list_of g es) u₂ u₃ (thin m r kf) na i₂ q₃) more)))

      module _ (j : ℕ) (e : a.name ≡ name_of j) (l₀ : 5 ≤ name_of j) (tk : Takes (holds j) ks) (v : Shape) (weak : Rel x b s → Rel v b s) (meet : T (meets v (contract_of j)))
          (beyond : (u : State) → Along g n k b (seq v (contract_of j).does) y (suc P₂) (z ∷ Before₂) es tail u) where
        jump-along : eqb a.name 53 ≡ true → d ≡ false → Along (element a f z g) n k b x y p before es tail s
        jump-along is d₂ h l w i more =
            let hv = weak h in
            let n53 = eqb-true a.name 53 is in
            let i53 : j ≡ 53 = kind-named j (sym e ∙ n53) in
            let tk₂ : Takes (holds 53) ks = rw i53 at tk in
            let rd : Ready (contract_of 53) s = rw i53 at (ready v (contract_of j) b s meet hv) in
            let jump : Pass p before (a ∷ list_of f (z ∷ list_of g es)) ≡ Pass (suc P₂) (z ∷ Before₂) (list_of g es) = rw d₂ (definition-over text o a f z p before (list_of g es) is r (paired kf) (in-definition tk₂ kf)) in
            let idled : Rel (contract_of j).does s s = rw i53 (rel-less idle (contract_of 53).does s s definition-idle (rel-idle s)) in
            rw jump (beyond s (rel-later v (contract_of j).does b s s hv idled) l w (keeps.over p before a f z (list_of g es) s d₂ n53 r tk₂ kf rd i) more)

        thick-along : T (c j) → eqb a.name 53 ≡ false → k + n + 1 ≤ 64 → T (small n (seq v (contract_of j).does))
            → ((x₁ y₁ : Shape) (u : State) → Low (k + n) s → Walk Rel rel-less 1 ks x₁ y₁ → Along f 1 (k + n) s x₁ y₁ (suc p) (a ∷ before) (z ∷ list_of g es) tail u)
            → Along (element a f z g) n k b x y p before es tail s
        thick-along ok isn't room tiny inside h l w i more =
            let hv = weak h in
            let nz : eqb z.name 53 ≡ false = rw r.2 isn't in
            around text o Q j a z f e l₀ r tk (k + n) s room l (ready v (contract_of j) b s meet hv) w p P₂ before Before₂ (list_of g es)
            (Pass p before (a ∷ list_of f (z ∷ list_of g es))) (Pass (suc p) (a ∷ before) (list_of f (z ∷ list_of g es))) (Pass P₂ Before₂ (z ∷ list_of g es)) (Pass (suc P₂) (z ∷ Before₂) (list_of g es)) tail
            (pass-next text o p before a (list_of f (z ∷ list_of g es)) d isn't) (pass-next text o P₂ Before₂ z (list_of g es) d nz) (keeps.enters p before a (list_of f (z ∷ list_of g es)) s r.0 i)
            (λ x₁ y₁ u₁ q₁ v₁ h₁ l₁ w₁ leave. inside x₁ y₁ u₁ l v₁ h₁ l₁ w₁ (keeps.entered p before a (list_of f (z ∷ list_of g es)) s u₁ r.0 isn't i q₁)
            (λ u₂ h₂ l₂ w₂ i₂. leave u₂ (keeps.leaves p before a f z (list_of g es) u₂ (thick j ok e l₀ r tk kf) isn't i₂) h₂ l₂ w₂
            (λ u₃ q₃ h₃ w₃. let h₄ = rel-later v (contract_of j).does b s u₃ hv h₃ in
            beyond u₃ h₄ (low n k (seq v (contract_of j).does) b u₃ tiny h₄ base) w₃ (keeps.left p before a f z (list_of g es) u₂ u₃ (thick j ok e l₀ r tk kf) isn't i₂ q₃) more)))

    pub forest : {ks : List ℕ} {f : Forest} → Kinds ks f → T (every c ks) → Clear d f → (n k : ℕ) (b : State) → Low k b → k + n + deep f ≤ 64 → (x y : Shape) → Walk Rel rel-less n ks x y → (p : ℕ) (before es : List Event) (tail : List Turn) (s : State) → Along f n k b x y p before es tail s
    forest none ok c₀ n k b base room x y v p before es tail s = λ h l w i more. more s (v b s h) l w i
    forest (through {a} {z} {ks} {ls} {f} {g} m r kf kg) ok c₀ n k b base room x y v p before es tail s =
        let cs = clear-parts d a f z g c₀ in
        let oks = every-split c ks ls ok in
        let ms = walk_split Rel rel-less n ks ls x y v in
        let mf = le-max_left (suc (deep f)) (deep g) in
        let mg = le-max_right (suc (deep f)) (deep g) in
        thin-along a z f g kf r n k b base x y p before es tail s ms.0 m (omega arith)
        (λ u. forest kf oks.0 cs.0 n k b base (omega arith) x ms.0 ms.1 (suc p) (a ∷ before) (z ∷ list_of g es) tail u)
        (λ u. forest kg oks.1 cs.1 n k b base (omega arith) ms.0 y ms.2 (suc (placed f (suc p))) (z ∷ behind f (a ∷ before)) es tail u)
    forest (child {a} {z} {k = j} {ks} {ls} {f} {g} e l₀ r tk kf kg) ok c₀ n k b base room x y (v, weak, meet, tiny, rest) p before es tail s =
        let cs = clear-parts d a f z g c₀ in
        let mf = le-max_left (suc (deep f)) (deep g) in
        let mg = le-max_right (suc (deep f)) (deep g) in
        let oks = both (c j) (every c ls) ok in
        let r₁ : k + n + 1 ≤ 64 = omega arith in
        let beyond : (u : State) → Along g n k b (seq v (contract_of j).does) y (suc (placed f (suc p))) (z ∷ behind f (a ∷ before)) es tail u = λ u. forest kg oks.1 cs.1 n k b base (omega arith) (seq v (contract_of j).does) y rest (suc (placed f (suc p))) (z ∷ behind f (a ∷ before)) es tail u in
        decide (eqb a.name 53)
        (λ is. jump-along a z f g kf r n k b base x y p before es tail s j e l₀ tk v (weak b s) meet beyond is (clear-so d a f z g c₀ is))
        (λ isn't. thick-along a z f g kf r n k b base x y p before es tail s j e l₀ tk v (weak b s) meet beyond oks.0 isn't r₁ tiny
        (λ x₁ y₁ u l v₁. forest kf (kinds-taken c tk (keeps.closed j l₀ oks.0)) cs.0 1 (k + n) s l (omega arith) x₁ y₁ v₁ (suc p) (a ∷ before) (z ∷ list_of g es) tail u))
