-- What each step does goes on where its contract is met, and has the shape that the contract says. Assumes nothing.
use mathlib.Core.Path.{refl}
use mathlib.Core.Bool.{Bool, true}
use mathlib.Core.List.{List, [], ◌∷◌}
use mathlib.Core.Option.{none, some}
use Prim.Native.Nat.{suc, ◌≤◌}
use native.Mathlib.Omega.{arith}
use lib.ListN.{length}
use Rattle.event.specs.Event.{alignments_of}
use Rattle.machine.specs.Outcome.{go}
use Rattle.machine.specs.State.{State}
use Rattle.machine.specs.Set.{set_tight, set_flag, with_flag, set_rank, set_seen, set_fences, set_marker, set_first, set_aligns, set_column}
use Rattle.machine.specs.Turn.{Turn, span_of, slice_of}
use Rattle.machine.specs.Media as M
use Rattle.machine.specs.Command.{Step, write, capture, setext, mode, wait, column, medium, retain, Capture, buffer, drop, resume, resume_code, capturing, Setext, hold, release, holding, Mode, set, leave_image, open_container, close_container, setting, Wait, keep_rank, forget_rank, seen_data, fences, count_fence, marker, reference, first, awaiting, Column, columns, no_columns, next_column, first_column, counting, Medium, open_media, close_media, store, empty_destination, identify, seek_definition, knowing, Keep, keep_definition, footnote_label, keep_footnote, call, keeping, tail, perform, exec}
use Rattle.machine_bounded.specs.Within.{setext_order, medium_order, in_order}
use Rattle.machine_shape.specs.Shape.{Moved, idle}
use Rattle.machine_shape.specs.Acts.{Ready, with_captures, with_tight, waiting, down1, up1, captures_by, does, holds, modes, waits, counts, knows, keeps, act}
use Rattle.machine_shape.specs.Right.{Captured, Awaited, Known, Kept, RightStep, Right}
use Rattle.machine_shape.proofs.Done.{Done, done-bind, done-need, rel-tight, rel-flags, done-set}
use Rattle.machine_shape.proofs.Waits.{rank-set, rank-none, seen-set, seen_none, fences-set, fences-none, marker-set, first-set, aligns-set, aligns-none, column-set}
use Rattle.machine_shape.proofs.Writes.{done-write, done-reference, done-buffer, done-drop, done-resume, done-code, done-hold, done-release}
use Rattle.machine_shape.proofs.Parts.{done-open, done-close, done-leave, done-empty, done-label-id, done-reference-id, done-seek, done-store-title, done-store-destination, done-store-label}
use Rattle.machine_shape.proofs.Notes.{done-label, done-define, done-note, done-call}

tail-moved : (xs : List Bool) → 1 ≤ length xs → Moved down1 (length xs) (length (tail xs))
tail-moved [] h = absurd (omega arith)
tail-moved (x ∷ xs) h = omega arith

module _ (t : Turn) (s : State) where
  captured : (x : Capture) → Ready (does (with_captures (captures_by x) idle)) s → Captured x s → Done (capturing x s) true (with_captures (captures_by x) idle) s
  unfolding exec Right
  captured buffer q r = done-buffer t s
  captured drop q r = done-drop t s q.captures
  captured (resume before after) q r = done-resume t s q.captures before after
  captured resume_code q r = done-code t s q.captures r

  held : (x : Setext) → Ready (holds x) s → Done (holding x s) (setext_order x s) (holds x).does s
  unfolding exec
  held hold q = done-hold t s q.captures q.waits.1.1.0 q.media.1.1.1.1.1.1.1.1.1.0
  held release q = done-release t s q.waits.1.0 q.media.1.1.1.1.1.1.1.1.1.0

  moded : (x : Mode) → Ready (modes x) s → Done (setting x s) true (modes x).does s
  unfolding exec
  moded (set flag v) q = done-set idle s (set_flag flag v s) (rel-flags (with_flag flag v s.flags) s) refl
  moded leave_image q = done-leave t s q.media.0
  moded (open_container v) q = done-set (with_tight up1 idle) s (set_tight (v ∷ s.tight) s) (rel-tight (v ∷ s.tight) up1 s (omega arith)) refl
  moded close_container q = done-set (with_tight down1 idle) s (set_tight (tail s.tight) s) (rel-tight (tail s.tight) down1 s (tail-moved s.tight q.tight)) refl

  awaited : (x : Wait) → Ready (waits x) s → Awaited x t s → Done (awaiting x t s) true (waits x).does s
  unfolding exec Right
  awaited keep_rank q r = done-bind true (waiting (0 ∷ []) []) s (slice_of t.text (span_of t.event)) (λ b. go (set_rank (some (length b)) s)) r.0 r.1 (done-set (waiting (0 ∷ []) []) s (set_rank (some (length r.0)) s) (rank-set s (length r.0)) refl)
  awaited forget_rank q r = done-set (waiting [] (0 ∷ [])) s (set_rank none s) (rank-none s) refl
  awaited (seen_data none) q r = done-set (waiting [] (3 ∷ [])) s (set_seen none s) (seen_none s) refl
  awaited (seen_data (some v)) q r = done-set (waiting (3 ∷ []) []) s (set_seen (some v) s) (seen-set s v) refl
  awaited (fences none) q r = done-set (waiting [] (4 ∷ [])) s (set_fences none s) (fences-none s) refl
  awaited (fences (some n)) q r = done-set (waiting (4 ∷ []) []) s (set_fences (some n) s) (fences-set s n) refl
  awaited count_fence q r = done-need true (waiting (4 ∷ []) []) s s.waiting.fences (λ n. go (set_fences (some (suc n)) s)) q.waits.1.1.1.1.0 (λ n e. done-set (waiting (4 ∷ []) []) s (set_fences (some (suc n)) s) (fences-set s (suc n)) refl)
  awaited (marker m) q r = done-set (waiting (5 ∷ []) (10 ∷ [])) s (set_marker (some m) s) (marker-set s m) refl
  awaited reference q r = done-reference t s q.waits.1.1.1.1.1.0 r
  awaited (first v) q r = done-set (waiting (6 ∷ []) []) s (set_first (some v) s) (first-set s v) refl

  counted : (x : Column) → Done (counting x t s) true (counts x).does s
  counted columns = done-set (waiting (7 ∷ []) (8 ∷ 9 ∷ [])) s (set_aligns (some (alignments_of t.event)) s) (aligns-set s (alignments_of t.event)) refl
  counted no_columns = done-set (waiting [] (7 ∷ 8 ∷ 9 ∷ [])) s (set_aligns none s) (aligns-none s) refl
  counted next_column = done-set (waiting [] (8 ∷ 9 ∷ [])) s (set_column (suc s.table.column) s) (column-set s (suc s.table.column)) refl
  counted first_column = done-set (waiting [] (8 ∷ 9 ∷ [])) s (set_column 0 s) (column-set s 0) refl

  known : (x : Medium) → Ready (knows x) s → Known x t s → Done (knowing x t s) (medium_order x s.media) (knows x).does s
  unfolding exec Right
  known (open_media image) q r = done-open t s image q.media.1.1.1.1.1.1.1.1.0
  known close_media q r = done-close t s q.media.0
  known (store M.label) q r = done-store-label t s q.media.0 q.captures q.media.1.1.1.1.0 q.media.1.1.1.0 q.media.1.0
  known (store M.destination) q r = done-store-destination t s q.media.0 q.captures q.media.1.1.1.1.0 q.media.1.1.1.0
  known (store M.title) q r = done-store-title t s q.media.0 q.captures q.media.1.1.1.1.0
  known empty_destination q r = done-empty t s q.media.0 q.media.1.1.1.0
  known (identify M.label_id) q r = done-label-id t s q.media.0
  known (identify M.reference_id) q r = done-reference-id t s q.media.0
  known seek_definition q r = done-seek t s q.media.0 q.media.1.1.1.1.1.1.1.0 r

  kept : (x : Keep) → Ready (keeps x) s → Kept x t s → Done (keeping x t s) true (keeps x).does s
  unfolding exec Right
  kept keep_definition q r = done-define t s q.media.0 q.media.1.1.1.1.1.1.0 r
  kept footnote_label q r = done-label t s
  kept keep_footnote q r = done-note t s q.captures q.labels r
  kept call q r = done-call t s q.media.0 q.media.1.1.1.1.1.0 r

  pub done-step : (x : Step) → Ready (act x) s → RightStep x t s → Done (perform x t s) (in_order x s) (act x).does s
  unfolding act
  done-step (write x) q r = done-write t s x q r
  done-step (capture x) q r = captured x q r
  done-step (setext x) q r = held x q
  done-step (mode x) q r = moded x q
  done-step (wait x) q r = awaited x q r
  done-step (column x) q r = counted x
  done-step (medium x) q r = known x q r
  done-step (retain x) q r = kept x q r
