-- Both passes over a list that nests go on to their end, within the code's tables. Assumes nothing.
use mathlib.Core.Path.{◌≡◌, refl, sym, ◌∙◌}
use mathlib.Core.Bool.{true, false}
use mathlib.Core.List.{List, [], ◌∷◌, ◌++◌, append-nil}
use Prim.Native.Nat.{ℕ, suc, ◌≤◌}
use native.Mathlib.Nat.{le-max_left, le-max_right}
use native.Mathlib.Omega.{arith}
use lib.Dec.{T, eqb}
use borrow.Author.Tests.{eqb-true, ne_eqb}
use Rattle.event.specs.declared.Event.{Event}
use Rattle.event.specs.Event.{is_enter}
use Rattle.check_nesting.specs.Grammar.{name_of, holds, whole}
use Rattle.check_nesting.specs.Nests.{Takes}
use Rattle.check_rules.specs.Elements.{Forest, list_of, Pair}
use Rattle.machine.specs.declared.Options.{Options}
use Rattle.machine.specs.declared.Fixed.{Fixed}
use Rattle.machine.specs.State.{State, start}
use Rattle.machine.specs.Turn.{Turn}
use Rattle.machine.specs.Run.{pass_from, turns_of}
use Rattle.machine_bounded.specs.Within.{Goes, ends}
use Rattle.machine_shape.specs.Shape.{Rel, Low, seq, covers}
use Rattle.machine_shape.specs.Acts.{Ready}
use Rattle.machine_shape.specs.Fits.{every, small, meets}
use Rattle.machine_shape.specs.Kinds.{lines, contract_of, begun, whole_fits}
use Rattle.machine_shape.specs.Right.{Few}
use Rattle.machine_shape.specs.Grown.{Kinds, none, through, child, deep}
use Rattle.machine_shape.specs.Pass.{placed, behind}
use Rattle.machine_shape.proofs.Says.{both}
use Rattle.machine_shape.proofs.Rel.{rel-later, rel-less, rel-begun, ready, low}
use Rattle.machine_shape.proofs.Test.{kind-named, whole-fits}
use Rattle.machine_shape.proofs.Walk.{takes-walk}
use Rattle.machine_shape.proofs.Grown.{Planted}
use Rattle.machine_shape.proofs.Pass.{pass-out, first-enter, first-exit}
use Rattle.machine_shape.proofs.Calm.{calm, calm-inside, any_kind, all_any, in-definition, every-split, loose, loose-whole, loose-name, loose-inside}
use Rattle.machine_shape.proofs.Run.{decide, Ends, RightAt, Took, around}
use Rattle.machine_shape.proofs.Forest.{Kept, forest}

-- ---- between blocks: nothing is open, nothing is held

pub record Between (s : State) : Type 0 where
  pub ready_for : Ready (contract_of 53) s
  pub low : Low 0 s

stays-ready : T (meets (seq (begun (contract_of 53)) (contract_of 53).does) (contract_of 53))
unfolding contract_of lines
stays-ready = tt

stays-low : T (small 0 (contract_of 53).does)
unfolding contract_of lines
stays-low = tt

as-quote : contract_of 53 ≡ contract_of 20
unfolding contract_of lines
as-quote = refl

between_stays : (s u : State) → Between s → Rel (contract_of 53).does s u → Between u
between_stays s u h r =
    record {
      ready_for = ready (seq (begun (contract_of 53)) (contract_of 53).does) (contract_of 53) s u stays-ready (rel-later (begun (contract_of 53)) (contract_of 53).does s s u (rel-begun (contract_of 53) s h.ready_for) r);
      low = low 0 0 (contract_of 53).does s u stays-low r h.low;
    }

between_start : (fixed : Fixed) → Between (start fixed)
unfolding contract_of lines start
between_start fixed =
    record {
      ready_for = record { captures = omega arith; tight = omega arith; labels = omega arith; waits = (tt, (tt, (tt, (tt, (tt, (tt, (tt, (tt, (tt, (tt, (tt, tt))))))))))); media = (tt, (tt, (tt, (tt, (tt, (tt, (tt, (tt, (tt, (tt, tt)))))))))) };
      low = record { captures = omega arith; tight = omega arith; media = omega arith; labels = omega arith };
    }

few-start : (fixed : Fixed) → Few (start fixed).kept
unfolding start
few-start fixed = record { definitions = omega arith; footnotes = omega arith; calls = omega arith; times = refl }

-- ---- the passes: Out is kept outside of definitions in the first, In inside one that begins at p₀, and Inv in the second

module _ (text : List ℕ) (o : Options) (Out Inv : ℕ → List Event → List Event → State → Type 0) (In : ℕ → List Event → State → ℕ → List Event → List Event → State → Type 0) where
  -- where the turns end
  pub record Rests (v : State) : Type 0 where
    pub between : Between v
    pub few : Few v.kept
    pub place : ℕ
    pub before : List Event
    pub after : Inv place before [] v

  pub record First : Type 0 where
    pub skips : (p : ℕ) (before : List Event) (e : Event) (es : List Event) (s : State) → eqb e.name 53 ≡ false → eqb e.name 54 ≡ false → Between s → Out p before (e ∷ es) s → Out (suc p) (e ∷ before) es s
    pub enters : (p : ℕ) (before : List Event) (e : Event) (es : List Event) (s : State) → is_enter e ≡ true → Out p before (e ∷ es) s → RightAt text o Rests p before e es s
    pub entered : (p : ℕ) (before : List Event) (e : Event) (es : List Event) (s u : State) → is_enter e ≡ true → e.name ≡ 53 → Between s → Out p before (e ∷ es) s → Took text o Rests p before e es s u → In p before s (suc p) (e ∷ before) es u
    pub inside : (p : ℕ) (before : List Event) (s : State) → Kept text o Rests true calm (In p before s)
    pub leaves : (p : ℕ) (before : List Event) (a : Event) (f : Forest) (z : Event) (es : List Event) (s v : State) {ks : List ℕ} → a.name ≡ 53 → Pair a z → Takes (holds 53) ks → Kinds ks f
        → In p before s (placed f (suc p)) (behind f (a ∷ before)) (z ∷ es) v → RightAt text o Rests (placed f (suc p)) (behind f (a ∷ before)) z es v
    pub left : (p : ℕ) (before : List Event) (a : Event) (f : Forest) (z : Event) (es : List Event) (s v w : State) {ks : List ℕ} → a.name ≡ 53 → Pair a z → Takes (holds 53) ks → Kinds ks f → Between w
        → In p before s (placed f (suc p)) (behind f (a ∷ before)) (z ∷ es) v → Took text o Rests (placed f (suc p)) (behind f (a ∷ before)) z es v w → Out (suc (placed f (suc p))) (z ∷ behind f (a ∷ before)) es w

  abbrev Fin : List Turn → State → Type 0
  Fin ts s = Ends text o Rests ts s

  -- from here on the first pass is outside of definitions
  abbrev Outside : ℕ → List Event → List Event → List Turn → State → Type 0
  Outside p before es tail s = Between s → Few s.kept → Out p before es s → Fin (pass_from true text o false p before es ++ tail) s

  module _ (kept : First) where
    module _ (a z : Event) (f g : Forest) (p : ℕ) (before es : List Event) (tail : List Turn) (s : State) (r : Pair a z) where
      abbrev P₂ : ℕ
      P₂ = placed f (suc p)

      abbrev Before₂ : List Event
      Before₂ = behind f (a ∷ before)

      -- an element that is no definition
      outside : eqb a.name 53 ≡ false → eqb a.name 54 ≡ false
          → (((u : State) → Outside P₂ Before₂ (z ∷ list_of g es) tail u) → Outside (suc p) (a ∷ before) (list_of f (z ∷ list_of g es)) tail s)
          → ((u : State) → Outside (suc P₂) (z ∷ Before₂) (list_of g es) tail u)
          → Outside p before (a ∷ list_of f (z ∷ list_of g es)) tail s
      outside na nb inside more h w i =
          let nz : eqb z.name 53 ≡ false = rw r.2 na in
          let ny : eqb z.name 54 ≡ false = rw r.2 nb in
          rw (pass-out text o p before a (list_of f (z ∷ list_of g es)) na)
          (inside (λ u h₁ w₁ i₁. rw (pass-out text o P₂ Before₂ z (list_of g es) nz) (more u h₁ w₁ (kept.skips P₂ Before₂ z (list_of g es) u nz ny h₁ i₁))) h w (kept.skips p before a (list_of f (z ∷ list_of g es)) s na nb h i))

      -- a definition
      definition : (j : ℕ) {ks : List ℕ} → a.name ≡ name_of j → 5 ≤ name_of j → Takes (holds j) ks → Kinds ks f → suc (deep f) ≤ 64 → eqb a.name 53 ≡ true
          → ((u : State) → Outside (suc P₂) (z ∷ Before₂) (list_of g es) tail u)
          → Outside p before (a ∷ list_of f (z ∷ list_of g es)) tail s
      definition j {ks} e l₀ tk kf room is more h w i =
          let nz : eqb z.name 53 ≡ true = rw r.2 is in
          let n53 = eqb-true a.name 53 is in
          let i53 : j ≡ 53 = kind-named j (sym e ∙ n53) in
          let tk₂ : Takes (holds 53) ks = rw i53 at tk in
          let rd : Ready (contract_of j) s = rw i53 h.ready_for in
          around text o Rests j a z f e l₀ r tk 0 s (omega arith) h.low rd w p P₂ before Before₂ (list_of g es)
          (pass_from true text o false p before (a ∷ list_of f (z ∷ list_of g es))) (pass_from true text o true (suc p) (a ∷ before) (list_of f (z ∷ list_of g es))) (pass_from true text o true P₂ Before₂ (z ∷ list_of g es)) (pass_from true text o false (suc P₂) (z ∷ Before₂) (list_of g es)) tail
          (first-enter text o p before a (list_of f (z ∷ list_of g es)) is r.0) (first-exit text o P₂ Before₂ z (list_of g es) nz r.1) (kept.enters p before a (list_of f (z ∷ list_of g es)) s r.0 i)
          (λ x₁ y₁ u₁ q₁ v₁ h₁ l₁ w₁ leave. forest text o Rests true calm (In p before s) (kept.inside p before s) kf (calm-inside tk₂) (in-definition tk₂ kf) 1 0 s h.low (omega arith) x₁ y₁ v₁ (suc p) (a ∷ before) (z ∷ list_of g es) tail u₁ h₁ l₁ w₁
          (kept.entered p before a (list_of f (z ∷ list_of g es)) s u₁ r.0 n53 h i q₁)
          (λ u₂ h₂ l₂ w₂ i₂. leave u₂ (kept.leaves p before a f z (list_of g es) s u₂ n53 r tk₂ kf i₂) h₂ l₂ w₂
          (λ u₃ q₃ h₃ w₃. let b = between_stays s u₃ h (rw i53 at h₃) in more u₃ b w₃ (kept.left p before a f z (list_of g es) s u₂ u₃ n53 r tk₂ kf b i₂ q₃))))

    first : {ks : List ℕ} {f : Forest} → Kinds ks f → T (every loose ks) → deep f ≤ 64 → (p : ℕ) (before es : List Event) (tail : List Turn) (s : State)
        → ((u : State) → Outside (placed f p) (behind f before) es tail u) → Outside p before (list_of f es) tail s
    first none w₀ room p before es tail s more = more s
    first (through {a} {z} {ks} {ls} {f} {g} m r kf kg) w₀ room p before es tail s more =
        let mf = le-max_left (suc (deep f)) (deep g) in
        let mg = le-max_right (suc (deep f)) (deep g) in
        let os = every-split loose ks ls w₀ in
        outside a z f g p before es tail s r (ne_eqb a.name 53 (λ e. absurd (omega arith))) (ne_eqb a.name 54 (λ e. absurd (omega arith)))
        (λ k. first kf os.0 (omega arith) (suc p) (a ∷ before) (z ∷ list_of g es) tail s k)
        (λ u. first kg os.1 (omega arith) (suc (placed f (suc p))) (z ∷ behind f (a ∷ before)) es tail u more)
    first (child {a} {z} {k = j} {ls = ls} {f} {g} e l₀ r tk kf kg) w₀ room p before es tail s more =
        let mf = le-max_left (suc (deep f)) (deep g) in
        let mg = le-max_right (suc (deep f)) (deep g) in
        let m₁ : suc (deep f) ≤ 64 = omega arith in
        let os = both (loose j) (every loose ls) w₀ in
        let nb : eqb a.name 54 ≡ false = rw e (loose-name j l₀ os.0) in
        decide (eqb a.name 53)
        (λ is. definition a z f g p before es tail s r j e l₀ tk kf m₁ is (λ u. first kg os.1 (omega arith) (suc (placed f (suc p))) (z ∷ behind f (a ∷ before)) es tail u more))
        (λ isn't. let nj : eqb (name_of j) 53 ≡ false = rw (sym e) isn't in
        outside a z f g p before es tail s r isn't nb
        (λ k. first kf (loose-inside j l₀ os.0 nj tk) (omega arith) (suc p) (a ∷ before) (z ∷ list_of g es) tail s k)
        (λ u. first kg os.1 (omega arith) (suc (placed f (suc p))) (z ∷ behind f (a ∷ before)) es tail u more))

    module _ (keeps : Kept text o Rests false any_kind Inv) where
      second : {ks : List ℕ} {f : Forest} → Kinds ks f → Takes whole ks → deep f ≤ 64 → (s : State) → Between s → Few s.kept → Inv 0 [] (list_of f []) s → Fin (pass_from false text o false 0 [] (list_of f []) ++ []) s
      unfolding whole_fits pass_from
      second {f} kf tk room s h w i =
          let q = takes-walk Rel rel-less 0 (λ x. covers x (contract_of 20).does) tk (begun (contract_of 20)) whole-fits in
          let r : Ready (contract_of 20) s = rw (sym as-quote) h.ready_for in
          forest text o Rests false any_kind Inv keeps kf (all_any tk) tt 0 0 s h.low (omega arith) (begun (contract_of 20)) q.0 q.1 0 [] [] [] s (rel-begun (contract_of 20) s r) h.low w i
          (λ u h₁ l₁ w₁ i₁.
          let d : Rel (contract_of 53).does s u = rw as-quote (rel-less q.0 (contract_of 20).does s u q.2 h₁) in
          (u, ends u, record { between = between_stays s u h d; few = w₁; place = placed f 0; before = behind f []; after = i₁ }))

      -- the whole run, from one pass to the other
      pub all-turns : (es : List Event) (fixed : Fixed) → Planted es → Out 0 [] es (start fixed)
          → ((p : ℕ) (before : List Event) (u : State) → Between u → Out p before [] u → Inv 0 [] es u)
          → (v : State) × Goes (turns_of text o es) (start fixed) v × Rests v
      unfolding turns_of pass_from
      all-turns es fixed g i over =
          let q : (v : State) × Goes (pass_from true text o false 0 [] (list_of g.forest []) ++ (pass_from false text o false 0 [] (list_of g.forest []) ++ [])) (start fixed) v × Rests v =
          first g.kinds (loose-whole g.takes) g.shallow 0 [] [] (pass_from false text o false 0 [] (list_of g.forest []) ++ []) (start fixed)
          (λ u h w j. second g.kinds g.takes g.shallow u h w (rw g.same at (over (placed g.forest 0) (behind g.forest []) u h j))) (between_start fixed) (few-start fixed) (rw g.same at i) in
          rw (append-nil, ← g.same) at q
