-- Slices that are kept can be read. Assumes nothing.
use mathlib.Core.Path.{◌≡◌, refl, sym}
use mathlib.Core.Bool.{Bool, true, false}
use mathlib.Core.Logic.{◌⊎◌, inl, inr}
use mathlib.Core.List.{List, [], ◌∷◌}
use mathlib.Core.Option.{Option, none, some}
use Prim.Native.Nat.{ℕ, ◌<◌}
use native.Mathlib.Omega.{arith}
use lib.Dec.{T}
use lib.ListN.{length}
use Rattle.event.specs.declared.Event.{Event}
use Rattle.event.specs.Event.{is_enter, events_of}
use Rattle.check_rules.specs.Rules.{Meets}
use Rattle.machine.specs.Outcome.{go}
use Rattle.machine.specs.State.{Span}
use Rattle.machine.specs.Turn.{span_of, str_of}
use Rattle.machine_shape.proofs.Says.{both}
use Rattle.machine_never.specs.Values.{Ids, Effect, pushes, pops, names, refers, leads, seeks, defines, labels, notes, calls, unmarks, marks, ids_step, labels_step, text_of}
use Rattle.machine_never.specs.Ghost.{effects_at, ids_run, ids_of, all_effects}
use Rattle.machine_never.specs.Here.{Here}
use Rattle.check_nesting.specs.Grammar.{name_count}
use Rattle.machine_never.proofs.Here.{fields-there, own-str}
use Rattle.machine_never.proofs.Inert.{enter-effects}
use Rattle.machine_never.proofs.Names.{enters, unspanned}

-- ---- slices that can be read

abbrev pub Reads : List ℕ → Span → Type 0
Reads text p = str_of text p ≡ go (text_of text p)

abbrev pub ReadIds : List ℕ → List Ids → Type 0
ReadIds text [] = Unit {0}
ReadIds text (i ∷ is) = ((p : Span) → i.label_id ≡ some p → Reads text p) × ((p : Span) → i.reference_id ≡ some p → Reads text p) × ReadIds text is

abbrev pub ReadAll : List ℕ → List Span → Type 0
ReadAll text [] = Unit {0}
ReadAll text (p ∷ ps) = Reads text p × ReadAll text ps

-- an event's own can be, or it keeps none
abbrev pub Spans : List ℕ → Event → List Effect → Type 0
Spans text e xs = Reads text (span_of e) ⊎ T (all_effects unspanned xs)

own_first : (text : List ℕ) (e : Event) → Reads text (span_of e) → (p : Span) → some (span_of e) ≡ some p → Reads text p
own_first text e r p q = let i : span_of e ≡ p = cc in rw (sym i) r

nothing-set : (text : List ℕ) (p : Span) → ◌≡◌ {A = Option Span} none (some p) → Reads text p
nothing-set text p q = let z : ◌≡◌ {A = ℕ} 0 1 = cc in absurd (omega arith)

spans_step : (text : List ℕ) (e : Event) (x : Effect) (is : List Ids) → Reads text (span_of e) ⊎ T (unspanned x) → ReadIds text is → ReadIds text (ids_step e x is)
spans_step text e pushes is s h = (λ p q. nothing-set text p q, λ p q. nothing-set text p q, h)
spans_step text e pops [] s h = tt
spans_step text e pops (i ∷ is) s h = h.2
spans_step text e names [] s h = tt
spans_step text e names (i ∷ is) (inl r) h = (own_first text e r, h.1, h.2)
spans_step text e names (i ∷ is) (inr t) h = absurd t
spans_step text e refers [] s h = tt
spans_step text e refers (i ∷ is) (inl r) h = (h.0, own_first text e r, h.2)
spans_step text e refers (i ∷ is) (inr t) h = absurd t
spans_step text e leads [] s h = tt
spans_step text e leads (i ∷ is) s h = h
spans_step text e seeks [] s h = tt
spans_step text e seeks (i ∷ is) s h = h
spans_step text e defines [] s h = tt
spans_step text e defines (i ∷ is) s h = h.2
spans_step text e labels is s h = h
spans_step text e notes is s h = h
spans_step text e calls [] s h = tt
spans_step text e calls (i ∷ is) s h = h.2
spans_step text e unmarks is s h = h
spans_step text e (marks m) is s h = h

split-spans : (text : List ℕ) (e : Event) (x : Effect) (xs : List Effect) → Spans text e (x ∷ xs) → (Reads text (span_of e) ⊎ T (unspanned x)) × Spans text e xs
split-spans text e x xs (inl r) = (inl r, inl r)
split-spans text e x xs (inr t) = let p = both (unspanned x) (all_effects unspanned xs) t in (inr p.0, inr p.1)

spans-run : (text : List ℕ) (e : Event) (xs : List Effect) (is : List Ids) → Spans text e xs → ReadIds text is → ReadIds text (ids_run e xs is)
spans-run text e [] is s h = h
spans-run text e (x ∷ xs) is s h = let p = split-spans text e x xs s in spans-run text e xs (ids_step e x is) p.1 (spans_step text e x is p.0 h)

abbrev pub labels_run : Event → List Effect → List Span → List Span
labels_run e [] ps = ps
labels_run e (x ∷ xs) ps = labels_run e xs (labels_step e x ps)

labels-step : (text : List ℕ) (e : Event) (x : Effect) (ps : List Span) → Reads text (span_of e) ⊎ T (unspanned x) → ReadAll text ps → ReadAll text (labels_step e x ps)
labels-step text e pushes ps s h = h
labels-step text e pops ps s h = h
labels-step text e names ps s h = h
labels-step text e refers ps s h = h
labels-step text e leads ps s h = h
labels-step text e seeks ps s h = h
labels-step text e defines ps s h = h
labels-step text e labels ps (inl r) h = (r, h)
labels-step text e labels ps (inr t) h = absurd t
labels-step text e notes [] s h = tt
labels-step text e notes (p ∷ ps) s h = h.1
labels-step text e calls ps s h = h
labels-step text e unmarks ps s h = h
labels-step text e (marks m) ps s h = h

pub labels-run : (text : List ℕ) (e : Event) (xs : List Effect) (ps : List Span) → Spans text e xs → ReadAll text ps → ReadAll text (labels_run e xs ps)
labels-run text e [] ps s h = h
labels-run text e (x ∷ xs) ps s h = let p = split-spans text e x xs s in labels-run text e xs (labels_step e x ps) p.1 (labels-step text e x ps p.0 h)

module _ (text events : List ℕ) (meets : Meets text events) where
  pub name_below : (p : ℕ) (before : List Event) (e : Event) (es : List Event) → Here (events_of events) p before (e ∷ es) → e.name < name_count
  name_below p before e es h = let f = (fields-there text events meets p before e es h).name in omega arith

  pub spans-there : (p : ℕ) (before : List Event) (e : Event) (es : List Event) → Here (events_of events) p before (e ∷ es) → Spans text e (effects_at e)
  spans-there p before e es h = at (is_enter e) refl
    where
      at : (x : Bool) → is_enter e ≡ x → Spans text e (effects_at e)
      at true q = inr (rw (enter-effects e e.name q refl) (enters e.name (name_below p before e es h)).spans)
      at false q = inl (own-str text events meets p before e es h q)

  -- those of the media that the events open
  pub ids-read : (p : ℕ) (before es : List Event) → Here (events_of events) p before es → ReadIds text (ids_of before)
  unfolding ids_of
  ids-read p [] es h = tt
  ids-read p (e ∷ before) es h =
      let b : Here (events_of events) (length before) before (e ∷ es) = record { long = refl; same = h.same } in
      spans-run text e (effects_at e) (ids_of before) (spans-there (length before) before e es b) (ids-read (length before) before (e ∷ es) b)
