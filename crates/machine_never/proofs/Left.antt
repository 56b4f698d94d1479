-- What a turn's effects leave of what is kept. Assumes nothing.
use mathlib.Core.Path.{◌≡◌, refl, ◌∙◌}
use mathlib.Core.List.{List, [], ◌∷◌}
use Prim.Native.Nat.{ℕ}
use lib.Dec.{T}
use Rattle.event.specs.declared.Event.{Event}
use Rattle.machine_shape.proofs.Says.{both}
use Rattle.machine_never.specs.Values.{Values, Effect, pushes, pops, names, refers, leads, seeks, defines, labels, notes, calls, unmarks, marks, does_to, do_to}
use Rattle.machine_never.specs.Ghost.{all_effects}
use Rattle.machine_never.proofs.Names.{undefining, unnoting, uncalling}

-- ---- what effects leave

defined-step : (text : List ℕ) (e : Event) (x : Effect) (v : Values) → T (undefining x) → (does_to text e x v).defined ≡ v.defined
defined-step text e pushes v t = refl
defined-step text e pops v t = refl
defined-step text e names v t = refl
defined-step text e refers v t = refl
defined-step text e leads v t = refl
defined-step text e seeks v t = refl
defined-step text e defines v t = absurd t
defined-step text e labels v t = refl
defined-step text e notes v t = refl
defined-step text e calls v t = refl
defined-step text e unmarks v t = refl
defined-step text e (marks m) v t = refl

pub defined-kept : (text : List ℕ) (e : Event) (xs : List Effect) (v : Values) → T (all_effects undefining xs) → (do_to text e xs v).defined ≡ v.defined
defined-kept text e [] v t = refl
defined-kept text e (x ∷ xs) v t = let p = both (undefining x) (all_effects undefining xs) t in defined-kept text e xs (does_to text e x v) p.1 ∙ defined-step text e x v p.0

noted_step : (text : List ℕ) (e : Event) (x : Effect) (v : Values) → T (unnoting x) → (does_to text e x v).noted ≡ v.noted
noted_step text e pushes v t = refl
noted_step text e pops v t = refl
noted_step text e names v t = refl
noted_step text e refers v t = refl
noted_step text e leads v t = refl
noted_step text e seeks v t = refl
noted_step text e defines v t = refl
noted_step text e labels v t = absurd t
noted_step text e notes v t = absurd t
noted_step text e calls v t = refl
noted_step text e unmarks v t = refl
noted_step text e (marks m) v t = refl

pub noted-kept : (text : List ℕ) (e : Event) (xs : List Effect) (v : Values) → T (all_effects unnoting xs) → (do_to text e xs v).noted ≡ v.noted
noted-kept text e [] v t = refl
noted-kept text e (x ∷ xs) v t = let p = both (unnoting x) (all_effects unnoting xs) t in noted-kept text e xs (does_to text e x v) p.1 ∙ noted_step text e x v p.0

labels-step : (text : List ℕ) (e : Event) (x : Effect) (v : Values) → T (unnoting x) → (does_to text e x v).labels ≡ v.labels
labels-step text e pushes v t = refl
labels-step text e pops v t = refl
labels-step text e names v t = refl
labels-step text e refers v t = refl
labels-step text e leads v t = refl
labels-step text e seeks v t = refl
labels-step text e defines v t = refl
labels-step text e labels v t = absurd t
labels-step text e notes v t = absurd t
labels-step text e calls v t = refl
labels-step text e unmarks v t = refl
labels-step text e (marks m) v t = refl

pub labels-kept : (text : List ℕ) (e : Event) (xs : List Effect) (v : Values) → T (all_effects unnoting xs) → (do_to text e xs v).labels ≡ v.labels
labels-kept text e [] v t = refl
labels-kept text e (x ∷ xs) v t = let p = both (unnoting x) (all_effects unnoting xs) t in labels-kept text e xs (does_to text e x v) p.1 ∙ labels-step text e x v p.0

calls-step : (text : List ℕ) (e : Event) (x : Effect) (v : Values) → T (uncalling x) → (does_to text e x v).calls ≡ v.calls
calls-step text e pushes v t = refl
calls-step text e pops v t = refl
calls-step text e names v t = refl
calls-step text e refers v t = refl
calls-step text e leads v t = refl
calls-step text e seeks v t = refl
calls-step text e defines v t = refl
calls-step text e labels v t = refl
calls-step text e notes v t = refl
calls-step text e calls v t = absurd t
calls-step text e unmarks v t = refl
calls-step text e (marks m) v t = refl

pub calls-kept : (text : List ℕ) (e : Event) (xs : List Effect) (v : Values) → T (all_effects uncalling xs) → (do_to text e xs v).calls ≡ v.calls
calls-kept text e [] v t = refl
calls-kept text e (x ∷ xs) v t = let p = both (uncalling x) (all_effects uncalling xs) t in calls-kept text e xs (does_to text e x v) p.1 ∙ calls-step text e x v p.0
