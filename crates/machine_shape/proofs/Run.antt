-- A turn goes on where its shape does, and so does an element whose inside goes on. Assumes nothing.
use mathlib.Core.Path.{◌≡◌, refl, ap, ◌∙◌}
use mathlib.Core.Bool.{Bool, true, false}
use mathlib.Core.List.{List, ◌∷◌, ◌++◌}
use Prim.Native.Nat.{ℕ, ◌+◌, ◌≤◌}
use native.Mathlib.Omega.{arith}
use lib.Dec.{T}
use Rattle.event.specs.declared.Event.{Event}
use Rattle.event.specs.Event.{is_enter}
use Rattle.check_nesting.specs.Grammar.{name_of, holds}
use Rattle.check_nesting.specs.Nests.{Takes}
use Rattle.check_rules.specs.Elements.{Forest, list_of, Pair}
use Rattle.machine.specs.declared.Options.{Options}
use Rattle.machine.specs.Outcome.{go}
use Rattle.machine.specs.State.{State}
use Rattle.machine.specs.Turn.{Turn}
use Rattle.machine.specs.Command.{Command}
use Rattle.machine.specs.Handlers.{command_of}
use Rattle.machine_bounded.specs.Within.{within, Goes, turns}
use Rattle.machine_shape.specs.Shape.{Shape, Rel, Low, idle, covers}
use Rattle.machine_shape.specs.Acts.{Ready}
use Rattle.machine_shape.specs.Fits.{goes, good}
use Rattle.machine_shape.specs.Kinds.{contract_of, begun, row_of, fits}
use Rattle.machine_shape.specs.Right.{Few, Right}
use Rattle.machine_shape.specs.Pass.{turn_at}
use Rattle.machine_shape.proofs.Rel.{rel-after, rel-less, rel-begun, rel-idle}
use Rattle.machine_shape.proofs.Sound.{sound}
use Rattle.machine_shape.proofs.Test.{kind_fits}
use Rattle.machine_shape.proofs.Walk.{Walk, takes-walk}

pub low-more : (n k : ℕ) (s : State) → n ≤ k → Low n s → Low k s
low-more n k s h l = record { captures = omega (arith, l.captures); tight = omega (arith, l.tight); media = omega (arith, l.media); labels = omega (arith, l.labels) }

pub decide : {X : Type 0} (x : Bool) → (x ≡ true → X) → (x ≡ false → X) → X
decide true f g = f refl
decide false f g = g refl

-- ---- turns; Q is any statement on the end

module _ (text : List ℕ) (o : Options) (Q : State → Type 0) where
  abbrev pub Ends : List Turn → State → Type 0
  Ends ts s = (v : State) × Goes ts s v × Q v

  pub enter-command : (p : ℕ) (before : List Event) (e : Event) (es : List Event) → is_enter e ≡ true → command_of (turn_at text o p before e es) ≡ (row_of e.name).enter
  unfolding command_of
  enter-command p before e es h = rw h refl

  pub exit-command : (p : ℕ) (before : List Event) (e : Event) (es : List Event) → is_enter e ≡ false → command_of (turn_at text o p before e es) ≡ (row_of e.name).exit
  unfolding command_of
  exit-command p before e es h = rw h refl

  -- a turn's values are right, and it was taken
  abbrev pub RightAt : ℕ → List Event → Event → List Event → State → Type 0
  RightAt p before e es s = Right (command_of (turn_at text o p before e es)) (turn_at text o p before e es) s

  abbrev pub Took : ℕ → List Event → Event → List Event → State → State → Type 0
  Took p before e es s u = within (command_of (turn_at text o p before e es)) (turn_at text o p before e es) s ≡ go u

  pub turn : (n k : ℕ) (b : State) → k + n ≤ 64 → Low k b → (t : Turn) (c : Command) (ts us tail : List Turn) (x : Shape) (f : Shape → Bool) (s : State)
      → command_of t ≡ c → ts ≡ t ∷ us → T (goes n c x f) → Rel x b s → Low (k + n) s → Few s.kept → Right (command_of t) t s
      → ((u : State) (y : Shape) → within (command_of t) t s ≡ go u → Rel y b u → T (f y) → Low (k + n) u → Few u.kept → Ends (us ++ tail) u)
      → Ends (ts ++ tail) s
  turn n k b room base t c ts us tail x f s e q g h l w i more =
      let r = sound n k room b base (command_of t) t x f s (rw e g) h l w i in
      let z = more r.state r.shape r.goes r.rel r.fine r.low r.few in
      let v : Ends (t ∷ (us ++ tail)) s = (z.0, turns t r.goes z.1, z.2) in
      rw q v

  -- a turn of 0 to 4
  pub quiet : (n k : ℕ) (b : State) → k + n ≤ 64 → Low k b → (t : Turn) (c : Command) (ts us tail : List Turn) (x : Shape) (s : State)
      → command_of t ≡ c → ts ≡ t ∷ us → T (goes 0 c idle (λ x. covers x idle)) → Rel x b s → Low (k + n) s → Few s.kept → Right (command_of t) t s
      → ((u : State) → within (command_of t) t s ≡ go u → Rel x b u → Low (k + n) u → Few u.kept → Ends (us ++ tail) u)
      → Ends (ts ++ tail) s
  quiet n k b room base t c ts us tail x s e q g h l w i more =
      turn 0 (k + n) s (omega arith) l t c ts us tail idle (λ x. covers x idle) s e q g (rel-idle s) (low-more (k + n) (k + n + 0) s (omega arith) l) w i
      (λ u y j r f m v. more u j (rel-after x b s u h (rel-less y idle s u f r)) (low-more (k + n + 0) (k + n) u (omega arith) m) v)

  -- an element, where its inside goes on: is are the turns behind its enter, vs those from its exit on, us those behind it
  pub around : (j : ℕ) {ks : List ℕ} (a z : Event) (f : Forest) → a.name ≡ name_of j → 5 ≤ name_of j → Pair a z → Takes (holds j) ks
      → (k : ℕ) (s : State) → k + 1 ≤ 64 → Low k s → Ready (contract_of j) s → Few s.kept
      → (p p₂ : ℕ) (before before₂ es : List Event) (ts is vs us tail : List Turn)
      → ts ≡ turn_at text o p before a (list_of f (z ∷ es)) ∷ is → vs ≡ turn_at text o p₂ before₂ z es ∷ us → RightAt p before a (list_of f (z ∷ es)) s
      → ((x y : Shape) (u : State) → Took p before a (list_of f (z ∷ es)) s u → Walk Rel rel-less 1 ks x y → Rel x s u → Low (k + 1) u → Few u.kept
      → ((v : State) → RightAt p₂ before₂ z es v → Rel y s v → Low (k + 1) v → Few v.kept → ((w : State) → Took p₂ before₂ z es v w → Rel (contract_of j).does s w → Few w.kept → Ends (us ++ tail) w) → Ends (vs ++ tail) v)
      → Ends (is ++ tail) u)
      → Ends (ts ++ tail) s
  unfolding fits
  around j a z f e l₀ r tk k s room l ready_for w p p₂ before before₂ es ts is vs us tail first-turn last_turn i inside =
      turn 1 k s room l (turn_at text o p before a (list_of f (z ∷ es))) (row_of (name_of j)).enter ts is tail (begun (contract_of j))
      (λ x. good contract_of 1 (holds j) x (λ y. goes 1 (row_of (name_of j)).exit y (λ z. covers z (contract_of j).does))) s
      (enter-command p before a (list_of f (z ∷ es)) r.0 ∙ ap (λ (n : ℕ). (row_of n).enter) e) first-turn (kind_fits j l₀) (rel-begun (contract_of j) s ready_for) (low-more k (k + 1) s (omega arith) l) w i
      (λ u₁ x₁ q₁ h₁ f₁ l₁ w₁. let q = takes-walk Rel rel-less 1 (λ y. goes 1 (row_of (name_of j)).exit y (λ z. covers z (contract_of j).does)) tk x₁ f₁ in
      inside x₁ q.0 u₁ q₁ q.1 h₁ l₁ w₁
      (λ u₂ i₂ h₂ l₂ w₂ more. turn 1 k s room l (turn_at text o p₂ before₂ z es) (row_of (name_of j)).exit vs us tail q.0
      (λ z. covers z (contract_of j).does) u₂
      (exit-command p₂ before₂ z es r.1 ∙ ap (λ (n : ℕ). (row_of n).exit) (r.2 ∙ e)) last_turn q.2 h₂ l₂ w₂ i₂
      (λ u₃ x₃ q₃ h₃ f₃ l₃ w₃. more u₃ q₃ (rel-less x₃ (contract_of j).does s u₃ f₃ h₃) w₃)))
