-- A command whose texts of ours are ASCII leaves a clean state clean. Assumes nothing.
use mathlib.Core.Path.{◌≡◌, refl}
use mathlib.Core.Bool.{Bool, true, false, cond}
use mathlib.Core.List.{List, [], ◌∷◌}
use mathlib.Core.Option.{Option, none, some}
use Prim.Native.Nat.{ℕ, zero, suc, ◌-◌}
use lib.Dec.{T}
use lib.ListN.{length, get_elem?}
use Rattle.lent.proofs.Computed.{and_left, and_right}
use Rattle.event.specs.Event.{alignments_of}
use Rattle.character_reference.specs.Reference.{are_digits, from_digits}
use Rattle.machine.specs.Outcome.{Outcome, stop, go, ◌>>=◌, need}
use Rattle.machine.specs.State.{State, own}
use Rattle.machine.specs.Set.{set_tight, set_labels, set_flag, set_setext, set_rank, set_seen, set_fences, set_marker, set_first, set_aligns, set_column, set_destination}
use Rattle.machine.specs.Buffers.{push, escaping_now, take_capture}
use Rattle.machine.specs.Turn.{Turn, span_of, slice_of, own_str}
use Rattle.machine.specs.Text.{start_text, start_of, code_of}
use Rattle.machine.specs.Media.{new_media, with_part, with_id}
use Rattle.machine.specs.Test.{Test, test}
use Rattle.machine.specs.Command.{Command, nothing, step, ◌▸◌, whether, missing_cells, Step, write, capture, setext, mode, wait, column, medium, retain, Given, ours as ours-text, line_ending, line_ending_if_needed, given_text, Made, slice, chunk, url, made_of, Source, given, made, rank, start, alignment, part, text_of, Capture, buffer, drop, resume, resume_code, capturing, Setext, hold, release, holding, Mode, set, leave_image, open_container, close_container, setting, Wait, keep_rank, forget_rank, seen_data, fences, count_fence, marker, reference, first, awaiting, Column, columns, no_columns, next_column, first_column, counting, Medium, open_media, close_media, store, empty_destination, identify, seek_definition, knowing, Keep, keep_definition, footnote_label, keep_footnote, call, keeping, tail, perform, repeat, exec}
use Rattle.machine.specs.Words as W
use Rattle.machine_clean.specs.Clean.{Valid, more, Maybe, missing, there, ours as itself, Clean}
use Rattle.machine_clean.specs.Ours.{plain, ours_given, ours_made, ours_written, ours_around, ours_in, ours}
use Rattle.machine_clean.proofs.Valid.{none-valid, joined, text, spaces}
use Rattle.machine_clean.proofs.Texts.{ending-valid, decimal-valid, start-valid, align-valid}
use Rattle.machine_clean.proofs.Encoded.{encoded, referred}
use Rattle.machine_clean.proofs.Urls.{url-valid}
use Rattle.machine_clean.proofs.CodeText.{code-valid}
use Rattle.machine_clean.proofs.Safe.{Safe, stops, goes, chain, result, any, needed, read, reads, sliced}
use Rattle.machine_clean.proofs.Pushed.{alike, pushed, pushed-encoded, needed-valid, opened, taken}
use Rattle.machine_clean.proofs.Media.{with-media, newest, changed, new-clean, part-clean, id-clean, leads, left, sought, shown, defines}
use Rattle.machine_clean.proofs.Footnotes.{keeps-body, called}

-- ---- what some of them are made of

started : (b : List ℕ) → Safe Valid (start_of b)
unfolding start_of
started b = on (are_digits 10 9 b)
  where
    on : (t : Bool) → Safe Valid (cond t (go (start_text (from_digits 10 b))) stop)
    on true = goes (start-valid (from_digits 10 b))
    on false = stops

with-setext : {s : State} {b : Option (List ℕ)} → Clean s → Maybe b → Clean (set_setext b s)
with-setext c p = record { page = c.page; captures = c.captures; media = c.media; setext = p; kept = c.kept }

repeated : (n : ℕ) (f : State → Outcome State) → ((s : State) → Clean s → Safe Clean (f s)) → {s : State} → Clean s → Safe Clean (repeat n f s)
repeated zero f k c = goes c
repeated (suc n) f k {s} c = chain _ (k s c) (λ u d. repeated n f k d)

chosen : (q : Test) (t : Turn) (s : State) {o p : Outcome State} → Safe Clean o → Safe Clean p → Safe Clean (test q t s >>= elim [ true ↦ o | false ↦ p ])
chosen q t s {o} {p} a b = chain (elim [ true ↦ o | false ↦ p ]) (any (test q t s)) (elim [ true ↦ λ _. a | false ↦ λ _. b ])

-- ---- what is written

given-valid : (x : Given) → T (ours_given x) → (s : State) → Valid (given_text x s)
given-valid (ours-text w) p s = text w p
given-valid line_ending p s = ending-valid s.fixed.ending
given-valid line_ending_if_needed p s = needed-valid s

made-valid : (x : Made) → T (ours_made x) → (t : Turn) (s : State) {b : List ℕ} → Valid b → Valid (made_of x t s b)
made-valid slice p t s v = encoded (escaping_now s) v
made-valid chunk p t s v = encoded (escaping_now s) (joined (joined (spaces t.event.before) v) (spaces t.event.after))
made-valid (url w) p t s v = url-valid t.options false (joined (text w p) v)

written : (x : Source) → T (ours_written x) → (t : Turn) (s : State) → Clean s → Safe Valid (text_of x t s)
written (given x) p t s c = goes (given-valid x p s)
written (made x) p t s c = chain _ (sliced t.text (span_of t.event)) (λ b v. goes (made-valid x p t s v))
written rank p t s c = chain _ (any (need s.waiting.rank)) (λ n _. goes (decimal-valid n))
written start p t s c = chain _ (any (own_str t)) (λ b _. started b)
written alignment p t s c = chain _ (any (need s.table.aligns)) (λ l _. chain _ (any (need (get_elem? l s.table.column))) (λ a _. goes (align-valid a)))
written (part x) p t s c = chain _ (newest c) (λ (m, ms) (y, z). shown x t.options c.kept.definitions y)

-- ---- each group of steps

captured : (x : Capture) → T (ours_around x) → (s : State) → Clean s → Safe Clean (capturing x s)
captured buffer p s c = goes (opened c)
captured drop p s c = chain _ (taken c) (λ (b, u) (v, d). goes d)
captured (resume w x) p s c = chain _ (taken c) (λ (b, u) (v, d). goes (pushed d (joined (joined (text w (and_left (plain w) (plain x) p)) v) (text x (and_right (plain w) (plain x) p)))))
captured resume_code p s c = chain _ (taken c) (λ (b, u) (v, d). chain _ (read (code_of u.table.aligns b)) (λ x w. goes (pushed d w)))

held : (x : Setext) (s : State) → Clean s → Safe Clean (holding x s)
held hold s c = chain _ (taken c) (λ (b, u) (v, d). goes (with-setext d (there v)))
held release s c = chain _ (needed c.setext) (λ b v. goes (pushed (with-setext c missing) v))

moded : (x : Mode) (s : State) → Clean s → Safe Clean (setting x s)
moded (set flag x) s c = goes (alike (set_flag flag x s) c refl)
moded leave_image s c = left c
moded (open_container x) s c = goes (alike (set_tight (x ∷ s.tight) s) c refl)
moded close_container s c = goes (alike (set_tight (tail s.tight) s) c refl)

awaited : (x : Wait) (t : Turn) (s : State) → Clean s → Safe Clean (awaiting x t s)
awaited keep_rank t s c = chain _ (any (slice_of t.text (span_of t.event))) (λ b _. goes (alike (set_rank (some (length b)) s) c refl))
awaited forget_rank t s c = goes (alike (set_rank none s) c refl)
awaited (seen_data x) t s c = goes (alike (set_seen x s) c refl)
awaited (fences x) t s c = goes (alike (set_fences x s) c refl)
awaited count_fence t s c = chain _ (any (need s.waiting.fences)) (λ n _. goes (alike (set_fences (some (suc n)) s) c refl))
awaited (marker m) t s c = goes (alike (set_marker (some m) s) c refl)
awaited reference t s c =
    chain _ (any (need s.waiting.marker)) (λ m _. chain _ (any (own_str t)) (λ b _. chain _ (needed (referred s.fixed.names m b)) (λ d v. goes (pushed-encoded (alike (set_marker none s) c refl) v))))
awaited (first x) t s c = goes (alike (set_first (some x) s) c refl)

counted : (x : Column) (t : Turn) (s : State) → Clean s → Safe Clean (counting x t s)
counted columns t s c = goes (alike (set_aligns (some (alignments_of t.event)) s) c refl)
counted no_columns t s c = goes (alike (set_aligns none s) c refl)
counted next_column t s c = goes (alike (set_column (suc s.table.column) s) c refl)
counted first_column t s c = goes (alike (set_column 0 s) c refl)

known : (x : Medium) (t : Turn) (s : State) → Clean s → Safe Clean (knowing x t s)
known (open_media image) t s c = goes (with-media (new_media image ∷ s.media) c (more (new-clean image) c.media))
known close_media t s c = chain _ (newest c) (λ (m, ms) (x, y). goes (with-media ms c y))
known (store p) t s c = chain _ (taken c) (λ (b, u) (v, d). changed (with_part p b) d (part-clean p v))
known empty_destination t s c = changed (set_destination (own [])) c (leads (own []) (itself none-valid))
known (identify id) t s c = changed (with_id id (span_of t.event)) c (id-clean id (span_of t.event))
known seek_definition t s c = sought t c

kept : (x : Keep) (t : Turn) (s : State) → Clean s → Safe Clean (keeping x t s)
kept keep_definition t s c = defines t c
kept footnote_label t s c = goes (alike (set_labels (span_of t.event ∷ s.labels) s) c refl)
kept keep_footnote t s c = keeps-body t c
kept call t s c = called t c

performed : (x : Step) → T (ours_in x) → (t : Turn) (s : State) → Clean s → Safe Clean (perform x t s)
performed (write x) p t s c = chain _ (written x p t s c) (λ b v. goes (pushed c v))
performed (capture x) p t s c = captured x p s c
performed (setext x) p t s c = held x s c
performed (mode x) p t s c = moded x s c
performed (wait x) p t s c = awaited x t s c
performed (column x) p t s c = counted x t s c
performed (medium x) p t s c = known x t s c
performed (retain x) p t s c = kept x t s c

-- ---- each command

pub safe : (c : Command) → T (ours c) → (t : Turn) (s : State) → Clean s → Safe Clean (exec c t s)
unfolding exec ours
safe nothing p t s c = goes c
safe (step x) p t s c = performed x p t s c
safe (d ▸ e) p t s c = chain _ (safe d (and_left (ours d) (ours e) p) t s c) (λ u x. safe e (and_right (ours d) (ours e) p) t u x)
safe (whether q d e) p t s c = chosen q t s (safe d (and_left (ours d) (ours e) p) t s c) (safe e (and_right (ours d) (ours e) p) t s c)
safe (missing_cells d) p t s c = chain _ (any (need s.table.aligns)) (λ l _. repeated (length l - s.table.column) (λ u. exec d t u) (λ u x. safe d p t u x) c)

pub keeps : (c : Command) → T (ours c) → (t : Turn) (s u : State) → Clean s → exec c t s ≡ go u → Clean u
keeps c p t s u d e = result Clean u (safe c p t s d) e

-- the code of a clean state is UTF-8, so this goes on wherever there is a capture
pub code-goes : (t : Turn) (s : State) (b : List ℕ) (u : State) → Clean s → take_capture s ≡ go (b, u) → exec W.resume_code t s ≡ go (push (code_of u.table.aligns b) u)
unfolding exec
code-goes t s b u c e = let v = result (λ (b, u). Valid b × Clean u) (b, u) (taken c) e in rw (e, reads (code-valid u.table.aligns v.0))
