-- The law: a command that goes on does to the values what its effects say. Assumes nothing.
use mathlib.Core.Path.{◌≡◌, refl, sym, ap, ◌∙◌}
use mathlib.Core.Bool.{Bool, true, false, ◌&&◌}
use mathlib.Core.List.{[], ◌++◌}
use mathlib.Core.Option.{none, some}
use Prim.Native.Nat.{suc, ◌-◌}
use lib.Dec.{T}
use lib.ListN.{length}
use Rattle.lent.specs.Bytes.{bytes}
use Rattle.machine.specs.Outcome.{Outcome, stop, go, ◌>>=◌}
use Rattle.machine.specs.State.{State, own}
use Rattle.machine.specs.Set.{set_media, set_destination, set_setext, set_rank, set_fences}
use Rattle.machine.specs.Buffers.{push}
use Rattle.machine.specs.Turn.{Turn, span_of, slice_of, as_str}
use Rattle.machine.specs.Text.{code_of}
use Rattle.machine.specs.Media as M
use Rattle.machine.specs.Media.{with_id}
use Rattle.machine.specs.Test.{test}
use Rattle.machine.specs.Command.{Command, nothing, step, ◌▸◌, whether, missing_cells, Step, write, capture, setext, mode, wait, column, medium, retain, text_of, Capture, buffer, drop, resume, resume_code, capturing, Setext, hold, release, holding, Mode, set, leave_image, open_container, close_container, setting, Wait, keep_rank, forget_rank, seen_data, fences, count_fence, marker, reference, first, awaiting, Column, columns, no_columns, next_column, first_column, counting, Medium, open_media, close_media, store, empty_destination, identify, seek_definition, knowing, Keep, keep_definition, footnote_label, keep_footnote, call, keeping, perform, repeat, exec}
use Rattle.machine.proofs.Outcomes.{never, first_goes, need-goes}
use Rattle.machine_shape.proofs.Says.{both}
use Rattle.machine_never.specs.Values.{values, do_to, wait_effects, medium_effects, keep_effects, step_effects, effects_of, is_none, tracks}
use Rattle.machine_never.proofs.Came.{same-go, pushed, on-newest, via-newest}
use Rattle.machine_never.proofs.Steps.{done-both, none_done, repeated, wrote, reference-done, buffer-done, taken, stored, seek-done, leave-done, define-done, note-done, call-done}

-- ---- steps

captured : (x : Capture) (t : Turn) (s u : State) → capturing x s ≡ go u → values u ≡ values s
unfolding exec
captured buffer t s u h = buffer-done t s u h
captured drop t s u h = taken t s u (λ (b, w). go w) h (values s) (λ r e z. same-go r.1 u (values s) z e)
captured (resume before after) t s u h = taken t s u (λ (b, w). go (push (bytes before ++ b ++ bytes after) w)) h (values s) (λ r e z. same-go (push _ r.1) u (values s) z (pushed _ r.1 ∙ e))
captured resume_code t s u h = taken t s u (λ (b, w). as_str (code_of w.table.aligns b) >>= λ code. go (push code w)) h (values s) (λ r e z. let q = first_goes (as_str (code_of r.1.table.aligns r.0)) (λ code. go (push code r.1)) _ z in same-go (push q.0 r.1) u (values s) q.2 (pushed q.0 r.1 ∙ e))

held : (x : Setext) (t : Turn) (s u : State) → holding x s ≡ go u → values u ≡ values s
held hold t s u h = taken t s u (λ (b, w). go (set_setext (some b) w)) h (values s) (λ r e z. same-go (set_setext (some r.0) r.1) u (values s) z e)
held release t s u h = let r = need-goes s.waiting.setext (λ b. go (push b (set_setext none s))) _ h in same-go (push r.0 (set_setext none s)) u (values s) r.2 (pushed r.0 (set_setext none s))

moded : (x : Mode) (t : Turn) (s u : State) → setting x s ≡ go u → values u ≡ values s
unfolding exec
moded (set flag v) t s u h = same-go _ u (values s) h refl
moded leave_image t s u h = leave-done t s u h
moded (open_container v) t s u h = same-go _ u (values s) h refl
moded close_container t s u h = same-go _ u (values s) h refl

awaited : (x : Wait) (t : Turn) (s u : State) → awaiting x t s ≡ go u → values u ≡ do_to t.text t.event (wait_effects x) (values s)
unfolding exec effects_of
awaited keep_rank t s u h = let r = first_goes (slice_of t.text (span_of t.event)) (λ b. go (set_rank (some (length b)) s)) _ h in same-go (set_rank (some (length r.0)) s) u (values s) r.2 refl
awaited forget_rank t s u h = same-go _ u (values s) h refl
awaited (seen_data v) t s u h = same-go _ u (values s) h refl
awaited (fences v) t s u h = same-go _ u (values s) h refl
awaited count_fence t s u h = let r = need-goes s.waiting.fences (λ n. go (set_fences (some (suc n)) s)) _ h in same-go (set_fences (some (suc r.0)) s) u (values s) r.2 refl
awaited (marker m) t s u h = same-go _ u (do_to t.text t.event (wait_effects (marker m)) (values s)) h refl
awaited reference t s u h = reference-done t s u h
awaited (first v) t s u h = same-go _ u (values s) h refl

counted : (x : Column) (t : Turn) (s u : State) → counting x t s ≡ go u → values u ≡ values s
counted columns t s u h = same-go _ u (values s) h refl
counted no_columns t s u h = same-go _ u (values s) h refl
counted next_column t s u h = same-go _ u (values s) h refl
counted first_column t s u h = same-go _ u (values s) h refl

known : (x : Medium) (t : Turn) (s u : State) → knowing x t s ≡ go u → values u ≡ do_to t.text t.event (medium_effects x) (values s)
unfolding exec effects_of
known (open_media image) t s u h = same-go _ u (do_to t.text t.event (medium_effects (open_media image)) (values s)) h refl
known close_media t s u h = via-newest s u (λ (m, ms). go (set_media ms s)) h (λ m ms e q. same-go (set_media ms s) u (do_to t.text t.event (medium_effects close_media) (values s)) q (rw e refl))
known (store M.label) t s u h = stored t s u M.label h (values s) (λ b m ms e. rw e refl)
known (store M.destination) t s u h = stored t s u M.destination h (do_to t.text t.event (medium_effects (store M.destination)) (values s)) (λ b m ms e. rw e refl)
known (store M.title) t s u h = stored t s u M.title h (values s) (λ b m ms e. rw e refl)
known empty_destination t s u h = on-newest (set_destination (own [])) s u (do_to t.text t.event (medium_effects empty_destination) (values s)) h (λ m ms e. rw e refl)
known (identify M.label_id) t s u h = on-newest (with_id M.label_id (span_of t.event)) s u (do_to t.text t.event (medium_effects (identify M.label_id)) (values s)) h (λ m ms e. rw e refl)
known (identify M.reference_id) t s u h = on-newest (with_id M.reference_id (span_of t.event)) s u (do_to t.text t.event (medium_effects (identify M.reference_id)) (values s)) h (λ m ms e. rw e refl)
known seek_definition t s u h = seek-done t s u h

kept : (x : Keep) (t : Turn) (s u : State) → keeping x t s ≡ go u → values u ≡ do_to t.text t.event (keep_effects x) (values s)
unfolding exec effects_of
kept keep_definition t s u h = define-done t s u h
kept footnote_label t s u h = same-go _ u (do_to t.text t.event (keep_effects footnote_label) (values s)) h refl
kept keep_footnote t s u h = note-done t s u h
kept call t s u h = call-done t s u h

stepped : (x : Step) (t : Turn) (s u : State) → perform x t s ≡ go u → values u ≡ do_to t.text t.event (step_effects x) (values s)
stepped (write x) t s u h = wrote t s u (text_of x t s) (λ b. b) h
stepped (capture x) t s u h = captured x t s u h
stepped (setext x) t s u h = held x t s u h
stepped (mode x) t s u h = moded x t s u h
stepped (wait x) t s u h = awaited x t s u h
stepped (column x) t s u h = counted x t s u h
stepped (medium x) t s u h = known x t s u h
stepped (retain x) t s u h = kept x t s u h

-- ---- commands

pub tracked : (c : Command) (t : Turn) (s u : State) → T (tracks c) → exec c t s ≡ go u → values u ≡ do_to t.text t.event (effects_of c) (values s)
unfolding exec effects_of tracks
tracked nothing t s u k h = same-go s u (values s) h refl
tracked (step x) t s u k h = stepped x t s u h
tracked (c ▸ d) t s u k h =
    let p = both (tracks c) (tracks d) k in
    let r = first_goes (exec c t s) (λ w. exec d t w) _ h in
    tracked d t r.0 u p.1 r.2 ∙ ap (do_to t.text t.event (effects_of d)) (tracked c t s r.0 p.0 r.1) ∙ sym (done-both t.text t.event (effects_of c) (effects_of d) (values s))
tracked (whether q c d) t s u k h =
    let p = both (tracks c && is_none (effects_of c)) (tracks d && is_none (effects_of d)) k in
    let i = both (tracks c) (is_none (effects_of c)) p.0 in
    let j = both (tracks d) (is_none (effects_of d)) p.1 in
    chosen (test q t s) (exec c t s) (exec d t s) h (λ z. tracked c t s u i.0 z ∙ none_done t.text t.event (effects_of c) (values s) i.1) (λ z. tracked d t s u j.0 z ∙ none_done t.text t.event (effects_of d) (values s) j.1)
  where
    chosen : (o : Outcome Bool) (a b : Outcome State) → (o >>= elim [ true ↦ a | false ↦ b ]) ≡ go u → (a ≡ go u → values u ≡ values s) → (b ≡ go u → values u ≡ values s) → values u ≡ values s
    chosen stop a b z f g = never z
    chosen (go true) a b z f g = f z
    chosen (go false) a b z f g = g z
tracked (missing_cells c) t s u k h =
    let i = both (tracks c) (is_none (effects_of c)) k in
    let r = need-goes s.table.aligns (λ aligns. repeat (length aligns - s.table.column) (λ w. exec c t w) s) _ h in
    repeated (length r.0 - s.table.column) (λ w. exec c t w) s u (λ a b z. tracked c t a b i.0 z ∙ none_done t.text t.event (effects_of c) (values a) i.1) r.2
