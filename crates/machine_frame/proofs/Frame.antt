-- The frame lemma, and that on a list which the checker passes there is a run for it. Assumes nothing.
use Rattle.std.proofs.Common.{Ok}
use mathlib.Core.Path.{◌≡◌, refl, sym, ◌∙◌}
use mathlib.Core.Bool.{Bool, true, false}
use mathlib.Core.List.{List, [], ◌∷◌, ◌++◌}
use Prim.Native.Nat.{ℕ, suc}
use native.Mathlib.Omega.{arith}
use lib.Dec.{T, eqb}
use borrow.Author.Tests.{eqb-true, ne_eqb}
use Rattle.event.specs.declared.Event.{Event}
use Rattle.event.specs.Event.{events_of}
use Rattle.check_nesting.specs.Grammar.{holds}
use Rattle.check_nesting.specs.Nests.{Takes}
use Rattle.check_rules.specs.Elements.{Forest, element, list_of, Pair}
use Rattle.check_list.specs.Checked.{check_of}
use Rattle.machine.specs.declared.Options.{Options}
use Rattle.machine.specs.declared.Ending.{Ending}
use Rattle.machine.specs.Outcome.{go}
use Rattle.machine.specs.State.{State, start}
use Rattle.machine.specs.Turn.{Turn}
use Rattle.machine.specs.Handlers.{command_of, handle}
use Rattle.machine.specs.Run.{ending_of, fixed_of, pass_from, turns_of}
use Rattle.machine_bounded.specs.Within.{Goes, ends, turns}
use Rattle.machine_clean.specs.Turns.{through}
use Rattle.machine_clean.proofs.Within.{within-exec}
use Rattle.machine_shape.specs.Fits.{every}
use Rattle.machine_shape.specs.Grown.{Kinds, none, through as inside, child}
use Rattle.machine_shape.specs.Pass.{placed, behind}
use Rattle.machine_shape.proofs.Says.{both}
use Rattle.machine_shape.proofs.Test.{kind-named}
use Rattle.machine_shape.proofs.Pass.{inside-over, pass-out, first-enter, first-exit}
use Rattle.machine_shape.proofs.Calm.{every-split, in-definition, paired}
use Rattle.machine_shape.proofs.Run.{decide}
use Rattle.machine_shape.proofs.Forest.{Clear, clear-parts, clear-so}
use Rattle.machine_never.proofs.Never as Never
use Rattle.machine_frame.specs.Framed.{is_framed, Frames}
use Rattle.machine_frame.proofs.Run.{Reached, around}
use Rattle.machine_frame.proofs.Forest.{Pass, thin-enter, thin-exit, thick, along}
use Rattle.machine_frame.proofs.Level.{Level, level-start, level-later, level-more, level-idle, level-does, said}

module _ (text : List ℕ) (o : Options) where
  -- each element has its turns: inside of a definition in the first, outside in the second
  level : (d : Bool) (n : ℕ) {ks : List ℕ} {f : Forest} → Kinds ks f → Clear d f → T (every (is_framed n) ks) → (p : ℕ) (before es : List Event) (tail : List Turn) (s v : State)
      → through (Pass text o d p before (list_of f es) ++ tail) s ≡ go v → Reached (Level n s) (Pass text o d (placed f p) (behind f before) es ++ tail) v
  level d n none c ok p before es tail s v run = (s, level-start n s, run)
  level d n (inside {a} {z} {ks} {ls} {f} {g} m r kf kg) c ok p before es tail s v run =
      let cs = clear-parts d a f z g c in
      let oks = every-split (is_framed n) ks ls ok in
      let k₁ = thin-enter text o d a z f r p before (list_of g es) tail v s m run in
      let k₂ = level d n kf cs.0 oks.0 (suc p) (a ∷ before) (z ∷ list_of g es) tail k₁.0 v k₁.2 in
      let k₃ = thin-exit text o d a z f r p before (list_of g es) tail v k₂.0 m k₂.2 in
      let k₄ = level d n kg cs.1 oks.1 (suc (placed f (suc p))) (z ∷ behind f (a ∷ before)) es tail k₃.0 v k₃.2 in
      (k₄.0, level-later n s k₁.0 k₄.0 (level-idle n s k₁.0 k₁.1) (level-later n k₁.0 k₂.0 k₄.0 k₂.1 (level-later n k₂.0 k₃.0 k₄.0 (level-idle n k₂.0 k₃.0 k₃.1) k₄.1)), k₄.2)
  level d n (child {a} {z} {k = j} {ks} {ls} {f} {g} e l r tk kf kg) c ok p before es tail s v run =
      let cs = clear-parts d a f z g c in
      let oks = both (is_framed n j) (every (is_framed n) ls) ok in
      let k₁ = thick text o d a z f r p before (list_of g es) tail v j s e l tk kf (clear-so d a f z g c) (λ x y u w h q. along text o d kf cs.0 x y w s u v (suc p) (a ∷ before) (z ∷ list_of g es) tail h q) run in
      let k₂ = level d n kg cs.1 oks.1 (suc (placed f (suc p))) (z ∷ behind f (a ∷ before)) es tail k₁.0 v k₁.2 in
      (k₂.0, level-later n s k₁.0 k₂.0 (level-does n j s k₁.0 l oks.0 k₁.1) k₂.1, k₂.2)

  -- outside of definitions none has in the first
  abbrev Outside : Forest → Type 0
  Outside f = (p : ℕ) (before es : List Event) (tail : List Turn) (s v : State) → through (pass_from true text o false p before (list_of f es) ++ tail) s ≡ go v → Reached (Level 0 s) (pass_from true text o false (placed f p) (behind f before) es ++ tail) v

  out : (a z : Event) (f g : Forest) → Pair a z → eqb a.name 53 ≡ false → Outside f → Outside g → Outside (element a f z g)
  out a z f g r na over-f over-g p before es tail s v run =
      let nz : eqb z.name 53 ≡ false = rw r.2 na in
      let k₁ = over-f (suc p) (a ∷ before) (z ∷ list_of g es) tail s v (rw (pass-out text o p before a (list_of f (z ∷ list_of g es)) na) at run) in
      let k₂ = over-g (suc (placed f (suc p))) (z ∷ behind f (a ∷ before)) es tail k₁.0 v (rw (pass-out text o (placed f (suc p)) (behind f (a ∷ before)) z (list_of g es) nz) at k₁.2) in
      (k₂.0, level-later 0 s k₁.0 k₂.0 k₁.1 k₂.1, k₂.2)

  outside : {ks : List ℕ} {f : Forest} → Kinds ks f → Outside f
  outside none = λ p before es tail s v run. (s, level-start 0 s, run)
  outside (inside {a} {z} {f} {g} m r kf kg) = out a z f g r (ne_eqb a.name 53 (λ e. absurd (omega arith))) (outside kf) (outside kg)
  outside (child {a} {z} {k = j} {ks} {f} {g} e l r tk kf kg) = decide (eqb a.name 53) (λ is p before es tail s v run.
      let nz : eqb z.name 53 ≡ true = rw r.2 is in
      let i : j ≡ 53 = kind-named j (sym e ∙ eqb-true a.name 53 is) in
      let tk₂ : Takes (holds 53) ks = rw i at tk in
      let k₁ = around text o j a z e l r tk s v p (placed f (suc p)) before (behind f (a ∷ before)) (list_of f (z ∷ list_of g es)) (list_of g es)
      (pass_from true text o false p before (a ∷ list_of f (z ∷ list_of g es))) (pass_from true text o true (suc p) (a ∷ before) (list_of f (z ∷ list_of g es))) (pass_from true text o true (placed f (suc p)) (behind f (a ∷ before)) (z ∷ list_of g es)) (pass_from true text o false (suc (placed f (suc p))) (z ∷ behind f (a ∷ before)) (list_of g es)) tail
      (first-enter text o p before a (list_of f (z ∷ list_of g es)) is r.0) (first-exit text o (placed f (suc p)) (behind f (a ∷ before)) z (list_of g es) nz r.1)
      (λ x y u w h q. along text o true kf (in-definition tk₂ kf) x y w s u v (suc p) (a ∷ before) (z ∷ list_of g es) tail h q) run in
      let k₂ = outside kg (suc (placed f (suc p))) (z ∷ behind f (a ∷ before)) es tail k₁.0 v k₁.2 in
      (k₂.0, level-later 0 s k₁.0 k₂.0 (level-does 0 j s k₁.0 l (rw i tt) k₁.1) k₂.1, k₂.2))
      (λ isn't. out a z f g r isn't (outside kf) (outside kg))

-- ---- the lemma

pub frame : (n : ℕ) {ks : List ℕ} {f : Forest} → Kinds ks f → T (every (is_framed n) ks) → Frames n f
frame n kf ok true true text o p before es rest s v c run = let k = level text o true n kf (c refl) ok p before es rest s v run in (k.0, said n s k.0 k.1, k.2)
frame n kf ok true false text o p before es rest s v c run = let k = outside text o kf p before es rest s v run in (k.0, said n s k.0 (level-more n s k.0 k.1), k.2)
frame n {f = f} kf ok false true text o p before es rest s v c run = (s, said n s s (level-start n s), rw (inside-over text o f p before es (paired kf) (c refl)) at run)
frame n kf ok false false text o p before es rest s v c run = let k = level text o false n kf tt ok p before es rest s v run in (k.0, said n s k.0 k.1, k.2)

-- ---- its run

run-through : {ts : List Turn} {s v : State} → Goes ts s v → through ts s ≡ go v
unfolding through handle
run-through (ends s) = refl
run-through (turns t {s = s} {u} w g) = rw (through, within-exec (command_of t) t s u w) (run-through g)

pub runs : (text events : List ℕ) (o : Options) → check_of text events ≡ Ok tt
    → (ending : Ending) × (ending_of o.ending text (events_of events) ≡ go ending) × (v : State) × (through (pass_from true text o false 0 [] (events_of events) ++ pass_from false text o false 0 [] (events_of events)) (start (fixed_of o ending)) ≡ go v)
unfolding turns_of
runs text events o passes = let g = Never.goes text events o passes in (g.0, g.1, g.2, run-through g.3)
