-- The two passes over a forest, event by event. Assumes nothing.
use mathlib.Core.Path.{◌≡◌, refl, ◌∙◌}
use mathlib.Core.Bool.{Bool, true, false, not, and-false}
use mathlib.Core.List.{List, ◌∷◌}
use Prim.Native.Nat.{ℕ, suc}
use lib.Dec.{eqb}
use Rattle.event.specs.declared.Event.{Event}
use Rattle.event.specs.Event.{is_enter}
use Rattle.check_rules.specs.Elements.{Forest, nil, element, list_of, Pair, Paired}
use Rattle.machine.specs.declared.Options.{Options}
use Rattle.machine.specs.Run.{pass_from}
use Rattle.machine_shape.specs.Pass.{placed, behind, NoDefinition, turn_at}

module _ (text : List ℕ) (o : Options) (p : ℕ) (before : List Event) (e : Event) (es : List Event) where
  -- inside a definition in the first pass, outside in the second: every event has its turn
  pub pass-next : (d : Bool) → eqb e.name 53 ≡ false → pass_from d text o d p before (e ∷ es) ≡ turn_at text o p before e es ∷ pass_from d text o d (suc p) (e ∷ before) es
  unfolding pass_from
  pass-next true h = rw (h, and-false (not (is_enter e))) refl
  pass-next false h = rw (h, and-false (is_enter e)) refl

  -- outside in the first pass none has
  pub pass-out : eqb e.name 53 ≡ false → pass_from true text o false p before (e ∷ es) ≡ pass_from true text o false (suc p) (e ∷ before) es
  unfolding pass_from
  pass-out h = rw (h, and-false (is_enter e)) refl

  -- nor inside in the second
  pub pass-in : eqb e.name 53 ≡ false → pass_from false text o true p before (e ∷ es) ≡ pass_from false text o true (suc p) (e ∷ before) es
  unfolding pass_from
  pass-in h = rw (h, and-false (not (is_enter e))) refl

  module _ (h : eqb e.name 53 ≡ true) where
    pub first-enter : is_enter e ≡ true → pass_from true text o false p before (e ∷ es) ≡ turn_at text o p before e es ∷ pass_from true text o true (suc p) (e ∷ before) es
    unfolding pass_from
    first-enter i = rw (i, h) refl

    pub first-exit : is_enter e ≡ false → pass_from true text o true p before (e ∷ es) ≡ turn_at text o p before e es ∷ pass_from true text o false (suc p) (e ∷ before) es
    unfolding pass_from
    first-exit i = rw (i, h) refl

    pub second-enter : is_enter e ≡ true → pass_from false text o false p before (e ∷ es) ≡ pass_from false text o true (suc p) (e ∷ before) es
    unfolding pass_from
    second-enter i = rw (i, h) refl

    pub second-exit : is_enter e ≡ false → pass_from false text o true p before (e ∷ es) ≡ pass_from false text o false (suc p) (e ∷ before) es
    unfolding pass_from
    second-exit i = rw (i, h) refl

-- a definition's inside is jumped over in the second pass
pub inside-over : (text : List ℕ) (o : Options) (f : Forest) (p : ℕ) (before es : List Event) → Paired f → NoDefinition f → pass_from false text o true p before (list_of f es) ≡ pass_from false text o true (placed f p) (behind f before) es
inside-over text o nil p before es r n = refl
inside-over text o (element a f z g) p before es (r, i, j) (n, k, l) =
    let m : eqb z.name 53 ≡ false = rw r.2 n in
    pass-in text o p before a (list_of f (z ∷ list_of g es)) n
    ∙ inside-over text o f (suc p) (a ∷ before) (z ∷ list_of g es) i k
    ∙ pass-in text o (placed f (suc p)) (behind f (a ∷ before)) z (list_of g es) m
    ∙ inside-over text o g (suc (placed f (suc p))) (z ∷ behind f (a ∷ before)) es j l

-- and so is the whole of it
pub definition-over : (text : List ℕ) (o : Options) (a : Event) (f : Forest) (z : Event) (p : ℕ) (before es : List Event) → eqb a.name 53 ≡ true → Pair a z → Paired f → NoDefinition f
    → pass_from false text o false p before (a ∷ list_of f (z ∷ es)) ≡ pass_from false text o false (suc (placed f (suc p))) (z ∷ behind f (a ∷ before)) es
definition-over text o a f z p before es h r i n =
    let m : eqb z.name 53 ≡ true = rw r.2 h in
    second-enter text o p before a (list_of f (z ∷ es)) h r.0
    ∙ inside-over text o f (suc p) (a ∷ before) (z ∷ es) i n
    ∙ second-exit text o (placed f (suc p)) (behind f (a ∷ before)) z es m r.1
