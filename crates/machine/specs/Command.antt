-- What handlers are made of, the Rust's own primitives, and what each does. Assumes nothing.
use Rattle.std.specs.Prelude.{Bool, true, false, List, [], ◌∷◌, ◌++◌, ℕ, zero, suc, ◌-◌, length, replicate}
use Rattle.std.proofs.Math.Option.{Option, none, some}
use Prim.Native.String.{String}
use Rattle.std.proofs.Math.ListN.{get_elem?}
use Rattle.lent.specs.Bytes.{bytes}
use Rattle.event.specs.Event.{alignments_of}
use Rattle.character_reference.specs.declared.Marker.{Marker}
use Rattle.character_reference.specs.Reference.{reference_for}
use Rattle.machine.specs.Outcome.{Outcome, stop, go, ◌>>=◌, need}
use Rattle.machine.specs.State.{State, own}
use Rattle.machine.specs.Set.{set_media, set_tight, set_labels, Flag, set_flag, set_rank, set_setext, set_seen, set_fences, set_marker, set_first, set_aligns, set_column, set_destination}
use Rattle.machine.specs.Buffers.{push, encoded, push_encoded, open_capture, take_capture, ending_text, ending_if_needed}
use Rattle.machine.specs.Turn.{Turn, span_of, slice_of, as_str, own_str, url_of}
use Rattle.machine.specs.Text.{decimal, start_of, align_text, code_of}
use Rattle.machine.specs.Media.{new_media, newest_media, on_newest, Part, with_part, part_text, Id, with_id, leave_alt, seek, define}
use Rattle.machine.specs.Footnote.{keep, call_note}
use Rattle.machine.specs.Test.{Test, test}

-- ---- steps, by what they touch

-- texts that are there whatever the event is
pub data Given : Type 0 where
  ours : String → Given  -- a text of ours
  line_ending line_ending_if_needed : Given

abbrev pub given_text : Given → State → List ℕ
given_text (ours text) s = bytes text
given_text line_ending s = ending_text s
given_text line_ending_if_needed s = ending_if_needed s

-- what is made of the event's slice
pub data Made : Type 0 where
  slice : Made  -- encoded
  chunk : Made  -- with its virtual spaces
  url : String → Made  -- of an autolink, behind a scheme

abbrev pub made_of : Made → Turn → State → List ℕ → List ℕ
made_of slice t s b = encoded b s
made_of chunk t s b = encoded (replicate t.event.before 32 ++ b ++ replicate t.event.after 32) s
made_of (url scheme) t s b = url_of t.options false (bytes scheme ++ b)

-- what is written to the newest buffer
pub data Source : Type 0 where
  given : Given → Source
  made : Made → Source
  rank : Source
  start : Source  -- the attribute
  alignment : Source  -- of the column
  part : Part → Source  -- of the newest medium

abbrev pub text_of : Source → Turn → State → Outcome (List ℕ)
text_of (given x) t s = go (given_text x s)
text_of (made x) t s = own_str t >>= λ b. go (made_of x t s b)
text_of rank t s = need s.waiting.rank >>= λ n. go (decimal n)
text_of start t s = own_str t >>= start_of
text_of alignment t s = need s.table.aligns >>= λ aligns. need (get_elem? aligns s.table.column) >>= λ a. go (align_text a)
text_of (part p) t s = newest_media s >>= λ (m, ms). part_text p t.options s.kept.definitions m

pub data Capture : Type 0 where
  buffer drop : Capture
  resume : String → String → Capture  -- between two texts
  resume_code : Capture

abbrev pub capturing : Capture → State → Outcome State
capturing buffer s = go (open_capture s)
capturing drop s = take_capture s >>= λ (b, u). go u
capturing (resume before after) s = take_capture s >>= λ (b, u). go (push (bytes before ++ b ++ bytes after) u)
capturing resume_code s = take_capture s >>= λ (b, u). as_str (code_of u.table.aligns b) >>= λ code. go (push code u)

-- a setext heading's text
pub data Setext : Type 0 where
  hold release : Setext

abbrev pub holding : Setext → State → Outcome State
holding hold s = take_capture s >>= λ (b, u). go (set_setext (some b) u)
holding release s = need s.waiting.setext >>= λ b. go (push b (set_setext none s))

-- flags and containers
pub data Mode : Type 0 where
  set : Flag → Bool → Mode
  leave_image : Mode
  open_container : Bool → Mode
  close_container : Mode

abbrev pub tail : {A : Type 0} → List A → List A
tail [] = []
tail (x ∷ xs) = xs

abbrev pub setting : Mode → State → Outcome State
setting (set flag x) s = go (set_flag flag x s)
setting leave_image s = leave_alt s
setting (open_container x) s = go (set_tight (x ∷ s.tight) s)
setting close_container s = go (set_tight (tail s.tight) s)

-- what waits
pub data Wait : Type 0 where
  keep_rank : Wait  -- the slice's length
  forget_rank : Wait
  seen_data : Option Bool → Wait
  fences : Option ℕ → Wait
  count_fence : Wait
  marker : Marker → Wait
  reference : Wait  -- what a character reference stands for, encoded
  first : Bool → Wait

abbrev pub awaiting : Wait → Turn → State → Outcome State
awaiting keep_rank t s = slice_of t.text (span_of t.event) >>= λ b. go (set_rank (some (length b)) s)
awaiting forget_rank t s = go (set_rank none s)
awaiting (seen_data x) t s = go (set_seen x s)
awaiting (fences x) t s = go (set_fences x s)
awaiting count_fence t s = need s.waiting.fences >>= λ n. go (set_fences (some (suc n)) s)
awaiting (marker m) t s = go (set_marker (some m) s)
awaiting reference t s = need s.waiting.marker >>= λ m. own_str t >>= λ b. need (reference_for s.fixed.names m b) >>= λ c. go (push_encoded c (set_marker none s))
awaiting (first x) t s = go (set_first (some x) s)

-- of a table
pub data Column : Type 0 where
  columns no_columns next_column first_column : Column

abbrev pub counting : Column → Turn → State → Outcome State
counting columns t s = go (set_aligns (some (alignments_of t.event)) s)
counting no_columns t s = go (set_aligns none s)
counting next_column t s = go (set_column (suc s.table.column) s)
counting first_column t s = go (set_column 0 s)

-- links, images, definitions
pub data Medium : Type 0 where
  open_media : Bool → Medium
  close_media : Medium
  store : Part → Medium  -- what was captured
  empty_destination : Medium
  identify : Id → Medium  -- by the slice
  seek_definition : Medium

abbrev pub knowing : Medium → Turn → State → Outcome State
knowing (open_media image) t s = go (set_media (new_media image ∷ s.media) s)
knowing close_media t s = newest_media s >>= λ (m, ms). go (set_media ms s)
knowing (store p) t s = take_capture s >>= λ (b, u). on_newest (with_part p b) u
knowing empty_destination t s = on_newest (set_destination (own [])) s
knowing (identify id) t s = on_newest (with_id id (span_of t.event)) s
knowing seek_definition t s = seek t s

-- what is kept to the end
pub data Keep : Type 0 where
  keep_definition footnote_label keep_footnote call : Keep

abbrev pub keeping : Keep → Turn → State → Outcome State
keeping keep_definition t s = define t s
keeping footnote_label t s = go (set_labels (span_of t.event ∷ s.labels) s)
keeping keep_footnote t s = keep t s
keeping call t s = call_note t s

pub data Step : Type 0 where
  write : Source → Step
  capture : Capture → Step
  setext : Setext → Step
  mode : Mode → Step
  wait : Wait → Step
  column : Column → Step
  medium : Medium → Step
  retain : Keep → Step

abbrev pub perform : Step → Turn → State → Outcome State
perform (write x) t s = text_of x t s >>= λ b. go (push b s)
perform (capture x) t s = capturing x s
perform (setext x) t s = holding x s
perform (mode x) t s = setting x s
perform (wait x) t s = awaiting x t s
perform (column x) t s = counting x t s
perform (medium x) t s = knowing x t s
perform (retain x) t s = keeping x t s

-- ---- commands

infixr 15 ◌▸◌
pub data Command : Type 0 where
  nothing : Command
  step : Step → Command
  ◌▸◌ : Command → Command → Command  -- one after the other
  whether : Test → Command → Command → Command
  missing_cells : Command → Command  -- as often as the row lacks a cell

abbrev pub repeat : ℕ → (State → Outcome State) → State → Outcome State
repeat zero f s = go s
repeat (suc n) f s = f s >>= λ u. repeat n f u

unfoldable pub exec : Command → Turn → State → Outcome State
exec nothing t s = go s
exec (step x) t s = perform x t s
exec (c ▸ d) t s = exec c t s >>= λ u. exec d t u
exec (whether q c d) t s = test q t s >>= elim [ true ↦ exec c t s | false ↦ exec d t s ]
exec (missing_cells c) t s = need s.table.aligns >>= λ aligns. repeat (length aligns - s.table.column) (λ u. exec c t u) s
