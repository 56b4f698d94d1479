-- The marker and the footnotes' labels behind a turn, and what holds between blocks. Assumes nothing.
use mathlib.Core.Path.{◌≡◌, refl}
use mathlib.Core.Bool.{not}
use mathlib.Core.List.{List, [], ◌∷◌}
use mathlib.Core.Option.{Option, none, some}
use Prim.Native.Nat.{ℕ, ◌≤◌}
use native.Mathlib.Omega.{arith}
use lib.Dec.{T}
use lib.ListN.{length}
use Rattle.event.specs.declared.Event.{Event}
use Rattle.character_reference.specs.declared.Marker.{Marker}
use Rattle.character_reference.specs.declared.Marker.TheVariants.{Named, Decimal, Hexadecimal}
use Rattle.machine.specs.State.{State}
use Rattle.machine.specs.Handlers.{rows}
use Rattle.machine.specs.OnText.{on_exit_character_reference_marker, on_exit_character_reference_marker_numeric, on_exit_character_reference_marker_hexadecimal}
use Rattle.machine_shape.specs.Acts.{Ready}
use Rattle.machine_shape.specs.Kinds.{lines, contract_of}
use Rattle.machine_shape.specs.Facts.{is_set}
use Rattle.machine_shape.proofs.Says.{both}
use Rattle.machine_shape.proofs.Passes.{Between}
use Rattle.machine_never.specs.Values.{Values, Effect, pushes, pops, names, refers, leads, seeks, defines, labels, notes, calls, unmarks, marks, marker_step, does_to, do_to, effects_of}
use Rattle.machine_never.specs.Ghost.{all_effects}
use Rattle.machine_never.proofs.Inert.{exit_effects}
use Rattle.machine_never.proofs.Names.{unmarked}
use Rattle.machine_never.proofs.Readable.{labels_run}

-- ---- the values' parts

pub labels-of : (text : List ℕ) (e : Event) (xs : List Effect) (v : Values) → (do_to text e xs v).labels ≡ labels_run e xs v.labels
labels-of text e [] v = refl
labels-of text e (x ∷ xs) v = labels-of text e xs (does_to text e x v)

marker-step : (x : Effect) (o : Option Marker) (m : Marker) → T (unmarked x) → marker_step x o ≡ some m → o ≡ some m
marker-step pushes o m t h = h
marker-step pops o m t h = h
marker-step names o m t h = h
marker-step refers o m t h = h
marker-step leads o m t h = h
marker-step seeks o m t h = h
marker-step defines o m t h = h
marker-step labels o m t h = h
marker-step notes o m t h = h
marker-step calls o m t h = h
marker-step unmarks o m t h = let z : ◌≡◌ {A = ℕ} 0 1 = cc in absurd (omega arith)
marker-step (marks n) o m t h = absurd t

pub marker-kept : (text : List ℕ) (e : Event) (xs : List Effect) (v : Values) (m : Marker) → T (all_effects unmarked xs) → (do_to text e xs v).marker ≡ some m → v.marker ≡ some m
marker-kept text e [] v m t h = h
marker-kept text e (x ∷ xs) v m t h = let p = both (unmarked x) (all_effects unmarked xs) t in marker-step x v.marker m p.0 (marker-kept text e xs (does_to text e x v) m p.1 h)

pub marks-8 : (text : List ℕ) (e : Event) (v : Values) → (do_to text e (exit_effects 8) v).marker ≡ some Named
unfolding effects_of rows on_exit_character_reference_marker
marks-8 text e v = refl

pub marks-9 : (text : List ℕ) (e : Event) (v : Values) → (do_to text e (exit_effects 9) v).marker ≡ some Decimal
unfolding effects_of rows on_exit_character_reference_marker_numeric
marks-9 text e v = refl

pub marks-10 : (text : List ℕ) (e : Event) (v : Values) → (do_to text e (exit_effects 10) v).marker ≡ some Hexadecimal
unfolding effects_of rows on_exit_character_reference_marker_hexadecimal
marks-10 text e v = refl

-- ---- between blocks

unset : {A : Type 0} (o : Option A) → T (not (is_set o)) → o ≡ none
unset none t = refl
unset (some a) t = absurd t

pub ready-unmarked : (s : State) → Ready (contract_of 53) s → s.waiting.marker ≡ none
unfolding contract_of lines
ready-unmarked s h = unset s.waiting.marker h.waits.1.1.1.1.1.1.1.1.1.1.0

none-long : {A : Type 0} (xs : List A) → length xs ≤ 0 → xs ≡ []
none-long [] h = refl
none-long (x ∷ xs) h = absurd (omega arith)

pub between-media : (s : State) → Between s → s.media ≡ []
between-media s h = none-long s.media h.low.media

pub between-labels : (s : State) → Between s → s.labels ≡ []
between-labels s h = none-long s.labels h.low.labels

pub no-marker : {X : Type 0} (o : Option Marker) (m : Marker) → o ≡ none → o ≡ some m → X
no-marker o m p q = let z : ◌≡◌ {A = ℕ} 0 1 = cc in absurd (omega arith)
