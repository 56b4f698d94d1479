-- A turn, and an element whose inside is known, in a run that goes on. Assumes nothing.
use mathlib.Core.Path.{◌≡◌, refl, ap, ◌∙◌}
use mathlib.Core.Bool.{Bool}
use mathlib.Core.List.{List, ◌∷◌, ◌++◌}
use Prim.Native.Nat.{ℕ, ◌≤◌}
use native.Mathlib.Omega.{arith}
use lib.Dec.{T}
use Rattle.event.specs.declared.Event.{Event}
use Rattle.check_nesting.specs.Grammar.{name_of, holds, kind_count}
use Rattle.check_nesting.specs.Nests.{Takes}
use Rattle.check_rules.specs.Elements.{Pair}
use Rattle.machine.specs.declared.Options.{Options}
use Rattle.machine.specs.Outcome.{Outcome, stop, go, ◌>>=◌}
use Rattle.machine.specs.State.{State}
use Rattle.machine.specs.Turn.{Turn}
use Rattle.machine.specs.Command.{Command}
use Rattle.machine.specs.Handlers.{command_of, handle}
use Rattle.machine_clean.specs.Turns.{through}
use Rattle.machine_clean.proofs.Safe.{result}
use Rattle.machine_shape.specs.Shape.{Shape, idle, covers}
use Rattle.machine_shape.specs.Fits.{goes, good}
use Rattle.machine_shape.specs.Kinds.{lines, contract_of, begun, row_of, fits, below}
use Rattle.machine_shape.specs.Pass.{turn_at}
use Rattle.machine_shape.proofs.Test.{computed, kind-below, kind_fits}
use Rattle.machine_shape.proofs.Walk.{Walk, takes-walk}
use Rattle.machine_shape.proofs.Run.{enter-command, exit-command}
use Rattle.machine_frame.proofs.Holds.{Does, Holds, holds-does, holds-less, mild, holds-start, holds-idle}
use Rattle.machine_frame.proofs.Commands.{Found, held}

-- children of these kinds lead from a shape to another
abbrev pub Leads : List ℕ → Shape → Shape → Type 0
Leads ks x y = Walk Holds holds-less 1 ks x y

-- the run comes to a state, and from there to v
abbrev pub Reached : (State → Type 0) → List Turn → State → Type 0
Reached P ts v = (u : State) × P u × (through ts u ≡ go v)

-- ---- a turn

took : (t : Turn) (ts : List Turn) (s v : State) → through (t ∷ ts) s ≡ go v → Reached (λ u. handle t s ≡ go u) ts v
unfolding through
took t ts s v = at (handle t s) refl
  where
    at : (o : Outcome State) → handle t s ≡ o → (o >>= λ u. through ts u) ≡ go v → Reached (λ u. handle t s ≡ go u) ts v
    at stop e r = let z : ◌≡◌ {A = ℕ} 0 1 = cc in absurd (omega arith)
    at (go u) e r = (u, e, r)

turn : (n : ℕ) (b : State) (t : Turn) (c : Command) (ts us tail : List Turn) (x : Shape) (f : Shape → Bool) (s v : State) → command_of t ≡ c → ts ≡ t ∷ us → T (goes n c x f) → Holds x b s → through (ts ++ tail) s ≡ go v → Reached (Found n b f) (us ++ tail) v
unfolding handle
turn n b t c ts us tail x f s v e q g h r =
    let k = took t (us ++ tail) s v (rw q at r) in
    (k.0, result (Found n b f) k.0 (held n b (command_of t) t x f s (rw e g) h) k.1, k.2)

-- ---- at the start of an element

all-mild : T (below kind_count (λ k. mild (begun (contract_of k)).waits))
unfolding contract_of lines
all-mild = tt

begins : (k : ℕ) (s : State) → 5 ≤ name_of k → Holds (begun (contract_of k)) s s
begins k s l = holds-start (begun (contract_of k)).waits (begun (contract_of k)).media s (computed (λ k. mild (begun (contract_of k)).waits) kind_count all-mild k (kind-below k l))

module _ (text : List ℕ) (o : Options) where
  -- 0 to 4
  pub quiet : (t : Turn) (c : Command) (ts us tail : List Turn) (s v : State) → command_of t ≡ c → ts ≡ t ∷ us → T (goes 0 c idle (λ x. covers x idle)) → through (ts ++ tail) s ≡ go v → Reached (Does idle s) (us ++ tail) v
  quiet t c ts us tail s v e q g r =
      let k = turn 0 s t c ts us tail idle (λ x. covers x idle) s v e q g (holds-idle s) r in
      (k.0, holds-does k.1.0 idle s k.0 k.1.2 k.1.1, k.2)

  -- any other: is are the turns behind its enter, vs those from its exit on, us those behind it
  pub around : (j : ℕ) {ks : List ℕ} (a z : Event) → a.name ≡ name_of j → 5 ≤ name_of j → Pair a z → Takes (holds j) ks
      → (s v : State) (p p₂ : ℕ) (before before₂ es es₂ : List Event) (ts is vs us tail : List Turn)
      → ts ≡ turn_at text o p before a es ∷ is → vs ≡ turn_at text o p₂ before₂ z es₂ ∷ us
      → ((x y : Shape) (u : State) → Leads ks x y → Holds x s u → through (is ++ tail) u ≡ go v → Reached (Holds y s) (vs ++ tail) v)
      → through (ts ++ tail) s ≡ go v → Reached (Does (contract_of j).does s) (us ++ tail) v
  unfolding fits
  around j a z e l r tk s v p p₂ before before₂ es es₂ ts is vs us tail first-turn last_turn inside run =
      let k₁ = turn 1 s (turn_at text o p before a es) (row_of (name_of j)).enter ts is tail (begun (contract_of j)) (λ x. good contract_of 1 (holds j) x (λ y. goes 1 (row_of (name_of j)).exit y (λ z. covers z (contract_of j).does))) s v
      (enter-command text o (λ s. Unit {0}) p before a es r.0 ∙ ap (λ (n : ℕ). (row_of n).enter) e) first-turn (kind_fits j l) (begins j s l) run in
      let w = takes-walk Holds holds-less 1 (λ y. goes 1 (row_of (name_of j)).exit y (λ z. covers z (contract_of j).does)) tk k₁.1.0 k₁.1.2 in
      let k₂ = inside k₁.1.0 w.0 k₁.0 w.1 k₁.1.1 k₁.2 in
      let k₃ = turn 1 s (turn_at text o p₂ before₂ z es₂) (row_of (name_of j)).exit vs us tail w.0 (λ z. covers z (contract_of j).does) k₂.0 v
      (exit-command text o (λ s. Unit {0}) p₂ before₂ z es₂ r.1 ∙ ap (λ (n : ℕ). (row_of n).exit) (r.2 ∙ e)) last_turn w.2 k₂.1 k₂.2 in
      (k₃.0, holds-does k₃.1.0 (contract_of j).does s k₃.0 k₃.1.2 k₃.1.1, k₃.2)
