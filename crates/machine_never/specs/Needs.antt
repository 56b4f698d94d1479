-- What a command needs of values whatever the state: by itself, by its turn, or by the state too. Assumes nothing.
use Rattle.std.specs.Prelude.{◌≡◌, Bool, true, false, ◌&&◌, ℕ}
use Rattle.std.proofs.Math.Option.{some}
use Rattle.std.proofs.Math.ListN.{get_elem?}
use Rattle.event.specs.declared.Event.{Event}
use Rattle.machine.specs.Outcome.{◌>>=◌}
use Rattle.machine.specs.Turn.{Turn, span_of, slice_of, own_str, just_before, look_back}
use Rattle.machine.specs.Text.{start_of}
use Rattle.machine.specs.Test.{Test, is, is_tight, is_in_container, is_image, has_rank, has_seen_data, is_first_fence, is_fenced_once, is_fence_missing, is_first_marker, is_past_columns, is_ordered, is_loose, is_underlined_by_dashes, is_last, is_html_allowed, is_behind_fence, is_behind_definition, is_tight_paragraph, is_empty_item}
use Rattle.machine.specs.Command.{Command, nothing, step, ◌▸◌, whether, missing_cells, Step, write, capture, setext, mode, wait, column, medium, retain, Source, given, made, rank, start, alignment, part, Capture, buffer, drop, resume, resume_code, Wait, keep_rank, forget_rank, seen_data, fences, count_fence, marker, reference, first, Medium, open_media, close_media, store, empty_destination, identify, seek_definition, Keep, keep_definition, footnote_label, keep_footnote, call}
use Rattle.machine_shape.specs.Right.{Goes}

-- nothing; the event's slice; a list's start in it; a byte there; an event before; one found by the look back; more
pub data Need : Type 0 where
  free slices starts begins follows looks more : Need

-- by groups
abbrev pub need_written : Source → Need
need_written (given x) = free
need_written (made x) = slices
need_written rank = free
need_written start = starts
need_written alignment = free
need_written (part p) = free

abbrev pub need_captured : Capture → Need
need_captured buffer = free
need_captured drop = free
need_captured (resume before after) = free
need_captured resume_code = more

abbrev pub need_awaited : Wait → Need
need_awaited keep_rank = slices
need_awaited forget_rank = free
need_awaited (seen_data v) = free
need_awaited (fences v) = free
need_awaited count_fence = free
need_awaited (marker m) = free
need_awaited reference = more
need_awaited (first v) = free

abbrev pub need_known : Medium → Need
need_known (open_media image) = free
need_known close_media = free
need_known (store p) = free
need_known empty_destination = free
need_known (identify id) = free
need_known seek_definition = more

abbrev pub need_kept : Keep → Need
need_kept keep_definition = more
need_kept footnote_label = free
need_kept keep_footnote = more
need_kept call = more

unfoldable pub need_of : Step → Need
need_of (write x) = need_written x
need_of (capture x) = need_captured x
need_of (setext x) = free
need_of (mode x) = free
need_of (wait x) = need_awaited x
need_of (column x) = free
need_of (medium x) = need_known x
need_of (retain x) = need_kept x

unfoldable pub ask_of : Test → Need
ask_of (is flag) = free
ask_of is_tight = free
ask_of is_in_container = free
ask_of is_image = free
ask_of has_rank = free
ask_of has_seen_data = free
ask_of is_first_fence = free
ask_of is_fenced_once = free
ask_of is_fence_missing = free
ask_of is_first_marker = free
ask_of is_past_columns = free
ask_of is_ordered = free
ask_of is_loose = free
ask_of is_underlined_by_dashes = begins
ask_of is_last = free
ask_of is_html_allowed = free
ask_of is_behind_fence = follows
ask_of is_behind_definition = free
ask_of is_tight_paragraph = looks
ask_of is_empty_item = looks

abbrev pub Fact : Need → Turn → Type 0
Fact free t = Unit {0}
Fact slices t = Goes (own_str t) × Goes (slice_of t.text (span_of t.event))
Fact starts t = Goes (own_str t >>= start_of)
Fact begins t = (b : ℕ) × (get_elem? t.text t.event.from.0 ≡ some b)
Fact follows t = (e : Event) × (just_before t.before ≡ some e)
Fact looks t = (e : Event) × (look_back 0 t.before ≡ some e)
Fact more t = ⊥

-- all that it needs is given
unfoldable pub simple : (Need → Bool) → Command → Bool
simple enough nothing = true
simple enough (step x) = enough (need_of x)
simple enough (c ▸ d) = simple enough c && simple enough d
simple enough (whether q c d) = enough (ask_of q) && (simple enough c && simple enough d)
simple enough (missing_cells c) = simple enough c

-- at an enter nothing is given; at an exit the slice; and more at some
abbrev pub none : Need → Bool
none free = true
none slices = false
none starts = false
none begins = false
none follows = false
none looks = false
none more = false

abbrev pub slice? : Need → Bool
slice? free = true
slice? slices = true
slice? starts = false
slice? begins = false
slice? follows = false
slice? looks = false
slice? more = false
