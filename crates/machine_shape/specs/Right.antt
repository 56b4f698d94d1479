-- What a command needs of values: of the event's slice, of the events before it, of labels and counts. Assumes nothing.
use Rattle.std.specs.Prelude.{◌≡◌, true, List, ◌∷◌, ℕ, ◌≤◌, ◌<◌, length}
use Rattle.std.proofs.Math.Option.{Option, some}
use Rattle.std.proofs.Math.ListN.{get_elem?}
use Rattle.event.specs.declared.Event.{Event}
use Rattle.character_reference.specs.declared.Marker.{Marker}
use Rattle.character_reference.specs.Reference.{reference_for}
use Rattle.machine.specs.Outcome.{Outcome, go, ◌>>=◌}
use Rattle.machine.specs.State as S
use Rattle.machine.specs.State.{State, Span, Media, Call}
use Rattle.machine.specs.Turn.{Turn, span_of, slice_of, as_str, str_of, own_str, just_before, look_back}
use Rattle.machine.specs.Text.{start_of, code_of}
use Rattle.machine.specs.Media.{label_of, destination_of}
use Rattle.machine.specs.Footnote.{call_index, count_at}
use Rattle.machine.specs.Test.{Test, is, is_tight, is_in_container, is_image, has_rank, has_seen_data, is_first_fence, is_fenced_once, is_fence_missing, is_first_marker, is_past_columns, is_ordered, is_loose, is_underlined_by_dashes, is_last, is_html_allowed, is_behind_fence, is_behind_definition, is_tight_paragraph, is_empty_item}
use Rattle.machine.specs.Command.{Command, nothing, step, ◌▸◌, whether, missing_cells, Step, write, capture, setext, mode, wait, column, medium, retain, Source, given, made, rank, start, alignment, part, Capture, buffer, drop, resume, resume_code, Wait, keep_rank, forget_rank, seen_data, fences, count_fence, marker, reference, first, Medium, open_media, close_media, store, empty_destination, identify, seek_definition, Keep, keep_definition, footnote_label, keep_footnote, call}
use Rattle.machine_bounded.specs.Within.{countable, within}

-- the code's tables hold what is kept
pub record Few (k : S.Kept) : Type 0 where
  pub definitions : length k.definitions ≤ 128
  pub footnotes : length k.footnotes ≤ 64
  pub calls : length k.calls ≤ 64
  pub times : countable k.calls ≡ true

abbrev pub Goes : {A : Type 0} → Outcome A → Type 0
Goes {A} o = (a : A) × (o ≡ go a)

-- ---- of tests

unfoldable pub Asks : Test → Turn → Type 0
Asks (is flag) t = Unit {0}
Asks is_tight t = Unit {0}
Asks is_in_container t = Unit {0}
Asks is_image t = Unit {0}
Asks has_rank t = Unit {0}
Asks has_seen_data t = Unit {0}
Asks is_first_fence t = Unit {0}
Asks is_fenced_once t = Unit {0}
Asks is_fence_missing t = Unit {0}
Asks is_first_marker t = Unit {0}
Asks is_past_columns t = Unit {0}
Asks is_ordered t = Unit {0}
Asks is_loose t = Unit {0}
Asks is_underlined_by_dashes t = (b : ℕ) × (get_elem? t.text t.event.from.0 ≡ some b)
Asks is_last t = Unit {0}
Asks is_html_allowed t = Unit {0}
Asks is_behind_fence t = (e : Event) × (just_before t.before ≡ some e)
Asks is_behind_definition t = Unit {0}
Asks is_tight_paragraph t = (e : Event) × (look_back 0 t.before ≡ some e)
Asks is_empty_item t = (e : Event) × (look_back 0 t.before ≡ some e)

-- ---- of commands

-- a call is counted in the code's table
pub record Counted (label : List ℕ) (cs : List Call) : Type 0 where
  pub calls : length (count_at (call_index label cs) label cs) ≤ 64
  pub times : countable (count_at (call_index label cs) label cs) ≡ true

abbrev pub Sought : Turn → State → Type 0
Sought t s = (m : Media) (ms : List Media) → s.media ≡ m ∷ ms → (sought : Option (List ℕ)) × (label_of t m.reference_id m.label_id ≡ go sought) × Goes (destination_of s.kept.definitions m.destination sought)

abbrev pub Defines : Turn → State → Type 0
Defines t s = (m : Media) (ms : List Media) (p : Span) → s.media ≡ m ∷ ms → m.reference_id ≡ some p → Goes (str_of t.text p) × (length s.kept.definitions < 128)

abbrev pub Notes : Turn → State → Type 0
Notes t s = (p : Span) (ps : List Span) → s.labels ≡ p ∷ ps → Goes (str_of t.text p) × (length s.kept.footnotes < 64)

abbrev pub Calls : Turn → State → Type 0
Calls t s = (m : Media) (ms : List Media) (p : Span) → s.media ≡ m ∷ ms → m.label_id ≡ some p → (b : List ℕ) × (str_of t.text p ≡ go b) × Counted b s.kept.calls

-- by groups
abbrev pub Told : Source → Turn → Type 0
Told (given x) t = Unit {0}
Told (made x) t = Goes (own_str t)
Told rank t = Unit {0}
Told start t = Goes (own_str t >>= start_of)
Told alignment t = Unit {0}
Told (part p) t = Unit {0}

abbrev pub Captured : Capture → State → Type 0
Captured buffer s = Unit {0}
Captured drop s = Unit {0}
Captured (resume before after) s = Unit {0}
Captured resume_code s = (c : List ℕ) (cs : List (List ℕ)) → s.captures ≡ c ∷ cs → Goes (as_str (code_of s.table.aligns c))

abbrev pub Awaited : Wait → Turn → State → Type 0
Awaited keep_rank t s = Goes (slice_of t.text (span_of t.event))
Awaited forget_rank t s = Unit {0}
Awaited (seen_data v) t s = Unit {0}
Awaited (fences v) t s = Unit {0}
Awaited count_fence t s = Unit {0}
Awaited (marker m) t s = Unit {0}
Awaited reference t s = (m : Marker) → s.waiting.marker ≡ some m → (b : List ℕ) × (own_str t ≡ go b) × (c : List ℕ) × (reference_for s.fixed.names m b ≡ some c)
Awaited (first v) t s = Unit {0}

abbrev pub Known : Medium → Turn → State → Type 0
Known (open_media image) t s = Unit {0}
Known close_media t s = Unit {0}
Known (store p) t s = Unit {0}
Known empty_destination t s = Unit {0}
Known (identify id) t s = Unit {0}
Known seek_definition t s = Sought t s

abbrev pub Kept : Keep → Turn → State → Type 0
Kept keep_definition t s = Defines t s
Kept footnote_label t s = Unit {0}
Kept keep_footnote t s = Notes t s
Kept call t s = Calls t s

abbrev pub RightStep : Step → Turn → State → Type 0
RightStep (write x) t s = Told x t
RightStep (capture x) t s = Captured x s
RightStep (setext x) t s = Unit {0}
RightStep (mode x) t s = Unit {0}
RightStep (wait x) t s = Awaited x t s
RightStep (column x) t s = Unit {0}
RightStep (medium x) t s = Known x t s
RightStep (retain x) t s = Kept x t s

unfoldable pub Right : Command → Turn → State → Type 0
Right nothing t s = Unit {0}
Right (step x) t s = RightStep x t s
Right (c ▸ d) t s = Right c t s × ((u : State) → within c t s ≡ go u → Right d t u)
Right (whether q c d) t s = Asks q t × Right c t s × Right d t s
Right (missing_cells c) t s = (u : State) → Right c t u
