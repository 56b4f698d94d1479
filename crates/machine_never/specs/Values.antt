-- Values that a later stop depends on: slices that name media and footnotes, the marker, labels that are kept. What each command does to them. Assumes nothing.
use Rattle.std.specs.Prelude.{Bool, true, false, ◌&&◌, ◌||◌, List, [], ◌∷◌, ◌++◌, ℕ}
use Rattle.std.proofs.Math.Option.{Option, none, some}
use Rattle.event.specs.declared.Event.{Event}
use Rattle.character_reference.specs.declared.Marker.{Marker}
use Rattle.check_labels.specs.Labels as L
use Rattle.machine.specs.State.{State, Span, Destination, no_destination, own, defined, Media, Call}
use Rattle.machine.specs.Turn.{span_of}
use Rattle.machine.specs.Media as M
use Rattle.machine.specs.Media.{definition_labels}
use Rattle.machine.specs.Section.{footnote_labels}
use Rattle.machine.specs.Footnote.{call_index, count_at}
use Rattle.machine.specs.Command.{Command, nothing, step, ◌▸◌, whether, missing_cells, Step, write, capture, setext, mode, wait, column, medium, retain, Wait, keep_rank, forget_rank, seen_data, fences, count_fence, marker, reference, first, Medium, open_media, close_media, store, empty_destination, identify, seek_definition, Keep, keep_definition, footnote_label, keep_footnote, call, tail}
use Rattle.machine_shape.specs.Facts.{is_set}

-- ---- the values

-- of an open medium: the slices that name it, and whether it leads anywhere
pub record Ids : Type 0 where
  pub label_id : Option Span
  pub reference_id : Option Span
  pub led : Bool

abbrev pub ids3 : Option Span → Option Span → Bool → Ids
ids3 l r x = record { label_id = l; reference_id = r; led = x }

abbrev pub is_led : Destination → Bool
is_led no_destination = false
is_led (own b) = true
is_led (defined k) = true

abbrev pub ids_in : List Media → List Ids
ids_in [] = []
ids_in (m ∷ ms) = ids3 m.label_id m.reference_id (is_led m.destination) ∷ ids_in ms

pub record Values : Type 0 where
  pub ids : List Ids
  pub labels : List Span
  pub marker : Option Marker
  pub defined : List (List ℕ)
  pub noted : List (List ℕ)
  pub calls : List Call

abbrev pub values : State → Values
values s = record { ids = ids_in s.media; labels = s.labels; marker = s.waiting.marker; defined = definition_labels s.kept.definitions; noted = footnote_labels s.kept.footnotes; calls = s.kept.calls }

-- ---- what is done to them

pub data Effect : Type 0 where
  pushes pops names refers leads seeks defines labels notes calls unmarks : Effect
  marks : Marker → Effect

abbrev pub on_top : (Ids → Ids) → List Ids → List Ids
on_top f [] = []
on_top f (i ∷ is) = f i ∷ is

abbrev pub ids_step : Event → Effect → List Ids → List Ids
ids_step e pushes is = ids3 none none false ∷ is
ids_step e pops is = tail is
ids_step e names is = on_top (λ i. ids3 (some (span_of e)) i.reference_id i.led) is
ids_step e refers is = on_top (λ i. ids3 i.label_id (some (span_of e)) i.led) is
ids_step e leads is = on_top (λ i. ids3 i.label_id i.reference_id true) is
ids_step e seeks is = on_top (λ i. ids3 i.label_id i.reference_id (i.led || (is_set i.reference_id || is_set i.label_id))) is
ids_step e defines is = tail is
ids_step e labels is = is
ids_step e notes is = is
ids_step e calls is = tail is
ids_step e unmarks is = is
ids_step e (marks m) is = is

abbrev pub labels_step : Event → Effect → List Span → List Span
labels_step e pushes ps = ps
labels_step e pops ps = ps
labels_step e names ps = ps
labels_step e refers ps = ps
labels_step e leads ps = ps
labels_step e seeks ps = ps
labels_step e defines ps = ps
labels_step e labels ps = span_of e ∷ ps
labels_step e notes ps = tail ps
labels_step e calls ps = ps
labels_step e unmarks ps = ps
labels_step e (marks m) ps = ps

abbrev pub marker_step : Effect → Option Marker → Option Marker
marker_step pushes o = o
marker_step pops o = o
marker_step names o = o
marker_step refers o = o
marker_step leads o = o
marker_step seeks o = o
marker_step defines o = o
marker_step labels o = o
marker_step notes o = o
marker_step calls o = o
marker_step unmarks o = none
marker_step (marks m) o = some m

-- the text of a slice
abbrev pub text_of : List ℕ → Span → List ℕ
text_of text p = L.slice text p.from p.to

abbrev pub add_referred : List ℕ → List Ids → List (List ℕ) → List (List ℕ)
add_referred text [] ls = ls
add_referred text (i ∷ is) ls = elim i.reference_id [ none ↦ ls | some p ↦ ls ++ (text_of text p ∷ []) ]

abbrev pub add_label : List ℕ → List Span → List (List ℕ) → List (List ℕ)
add_label text [] ls = ls
add_label text (p ∷ ps) ls = ls ++ (text_of text p ∷ [])

abbrev pub add_call : List ℕ → List Ids → List Call → List Call
add_call text [] cs = cs
add_call text (i ∷ is) cs = elim i.label_id [ none ↦ cs | some p ↦ count_at (call_index (text_of text p) cs) (text_of text p) cs ]

abbrev pub kept_step : List ℕ → Effect → Values → List (List ℕ) × List (List ℕ) × List Call
kept_step text pushes v = (v.defined, v.noted, v.calls)
kept_step text pops v = (v.defined, v.noted, v.calls)
kept_step text names v = (v.defined, v.noted, v.calls)
kept_step text refers v = (v.defined, v.noted, v.calls)
kept_step text leads v = (v.defined, v.noted, v.calls)
kept_step text seeks v = (v.defined, v.noted, v.calls)
kept_step text defines v = (add_referred text v.ids v.defined, v.noted, v.calls)
kept_step text labels v = (v.defined, v.noted, v.calls)
kept_step text notes v = (v.defined, add_label text v.labels v.noted, v.calls)
kept_step text calls v = (v.defined, v.noted, add_call text v.ids v.calls)
kept_step text unmarks v = (v.defined, v.noted, v.calls)
kept_step text (marks m) v = (v.defined, v.noted, v.calls)

abbrev pub does_to : List ℕ → Event → Effect → Values → Values
does_to text e x v =
    let k = kept_step text x v in
    record { ids = ids_step e x v.ids; labels = labels_step e x v.labels; marker = marker_step x v.marker; defined = k.0; noted = k.1; calls = k.2 }

abbrev pub do_to : List ℕ → Event → List Effect → Values → Values
do_to text e [] v = v
do_to text e (x ∷ xs) v = do_to text e xs (does_to text e x v)

-- ---- by commands

abbrev pub wait_effects : Wait → List Effect
wait_effects keep_rank = []
wait_effects forget_rank = []
wait_effects (seen_data v) = []
wait_effects (fences v) = []
wait_effects count_fence = []
wait_effects (marker m) = marks m ∷ []
wait_effects reference = unmarks ∷ []
wait_effects (first v) = []

abbrev pub medium_effects : Medium → List Effect
medium_effects (open_media image) = pushes ∷ []
medium_effects close_media = pops ∷ []
medium_effects (store M.label) = []
medium_effects (store M.destination) = leads ∷ []
medium_effects (store M.title) = []
medium_effects empty_destination = leads ∷ []
medium_effects (identify M.label_id) = names ∷ []
medium_effects (identify M.reference_id) = refers ∷ []
medium_effects seek_definition = seeks ∷ []

abbrev pub keep_effects : Keep → List Effect
keep_effects keep_definition = defines ∷ []
keep_effects footnote_label = labels ∷ []
keep_effects keep_footnote = notes ∷ []
keep_effects call = calls ∷ []

abbrev pub step_effects : Step → List Effect
step_effects (write x) = []
step_effects (capture x) = []
step_effects (setext x) = []
step_effects (mode x) = []
step_effects (wait x) = wait_effects x
step_effects (column x) = []
step_effects (medium x) = medium_effects x
step_effects (retain x) = keep_effects x

-- nothing is done on either way of a choice
unfoldable pub effects_of : Command → List Effect
effects_of nothing = []
effects_of (step x) = step_effects x
effects_of (c ▸ d) = effects_of c ++ effects_of d
effects_of (whether q c d) = []
effects_of (missing_cells c) = []

abbrev pub is_none : List Effect → Bool
is_none [] = true
is_none (x ∷ xs) = false

-- both ways of each choice in it do nothing
unfoldable pub tracks : Command → Bool
tracks nothing = true
tracks (step x) = true
tracks (c ▸ d) = tracks c && tracks d
tracks (whether q c d) = (tracks c && is_none (effects_of c)) && (tracks d && is_none (effects_of d))
tracks (missing_cells c) = tracks c && is_none (effects_of c)
