-- The law: where a command's shape goes on, the state that it goes on to holds what its shape says. Assumes nothing.
use mathlib.Core.Path.{◌≡◌, refl}
use mathlib.Core.Bool.{Bool, true, false}
use mathlib.Core.List.{List, [], ◌∷◌}
use mathlib.Core.Option.{none, some}
use Prim.Native.Nat.{ℕ, zero, suc, ◌-◌}
use lib.Dec.{T}
use lib.ListN as L
use lib.ListN.{length}
use Rattle.event.specs.Event.{alignments_of}
use Rattle.character_reference.specs.Reference.{reference_for}
use Rattle.machine.specs.Outcome.{Outcome, ◌>>=◌, need}
use Rattle.machine.specs.State.{State, own}
use Rattle.machine.specs.Set.{set_tight, set_labels, set_flag, set_setext, set_rank, set_seen, set_fences, set_marker, set_first, set_aligns, set_column, set_destination}
use Rattle.machine.specs.Buffers.{take_capture}
use Rattle.machine.specs.Turn.{Turn, span_of, slice_of, as_str, own_str}
use Rattle.machine.specs.Text.{code_of}
use Rattle.machine.specs.Media as M
use Rattle.machine.specs.Media.{new_media, on_newest, with_part, with_id}
use Rattle.machine.specs.Command.{Command, nothing, step, ◌▸◌, whether, missing_cells, Step, write, capture, setext, mode, wait, column, medium, retain, text_of, Capture, buffer, drop, resume, resume_code, capturing, Setext, hold, release, holding, Mode, set, leave_image, open_container, close_container, setting, Wait, keep_rank, forget_rank, seen_data, fences, count_fence, marker, reference, first, awaiting, Column, columns, no_columns, next_column, first_column, counting, Medium, open_media, close_media, store, empty_destination, identify, seek_definition, knowing, Keep, keep_definition, footnote_label, keep_footnote, call, keeping, tail, perform, repeat, exec}
use Rattle.machine_clean.proofs.Safe.{Safe, stops, halts, goes as on, chain, any}
use Rattle.machine_shape.specs.Shape.{Say, Shape, changed, over, gone, idle, seq, covers, keep_all}
use Rattle.machine_shape.specs.Acts.{Contract, act, waiting, turns, with_tight, with_labels, with_captures, with_media, down1, up1, captures_by, holds, modes, waits, counts, knows, keeps}
use Rattle.machine_shape.specs.Fits.{small, meets, steps, waits_for, any_cell, goes}
use Rattle.machine_shape.proofs.Says.{each}
use Rattle.machine_frame.proofs.Holds.{Does, Holds, holds_later, holds-less}
use Rattle.machine_frame.proofs.Ways.{way}
use Rattle.machine_frame.proofs.Writes.{unmoved, same, does-after, wrote, wrote-encoded, opened, taken, newest, with-media, on-newest, left, sought, defines, keeps-body, called}

-- ---- stacks of which one alone changes

stays : (s : State) → Does idle s s
stays s = same s s refl refl refl refl refl

opens-container : (x : Bool) (s : State) → Does (with_tight up1 idle) s (set_tight (x ∷ s.tight) s)
opens-container x s = let d = stays s in record { buffers = d.buffers; tight = refl; labels = refl; stack = refl; waits = d.waits }

closes-container : (s : State) → Does (with_tight down1 idle) s (set_tight (tail s.tight) s)
closes-container s = let d = stays s in record { buffers = d.buffers; tight = at s.tight; labels = refl; stack = refl; waits = d.waits }
  where
    at : (xs : List Bool) → tail xs ≡ L.drop 1 xs
    at [] = refl
    at (x ∷ xs) = refl

labels : (t : Turn) (s : State) → Does (with_labels up1 idle) s (set_labels (span_of t.event ∷ s.labels) s)
labels t s = let d = stays s in record { buffers = d.buffers; tight = refl; labels = refl; stack = refl; waits = d.waits }

-- ---- steps

captured : (x : Capture) (s : State) → Safe (Does (with_captures (captures_by x) idle) s) (capturing x s)
captured buffer s = on (opened s)
captured drop s = chain _ (taken s) (λ (b, u) d. on (d keep_all (λ i. i) (λ i. i)))
captured (resume before after) s = chain _ (taken s) (λ (b, u) d. on (wrote (with_captures down1 idle) s u (d keep_all (λ i. i) (λ i. i)) _))
captured resume_code s = chain _ (taken s) (λ (b, u) d. chain _ (any (as_str (code_of u.table.aligns b))) (λ code _. on (wrote (with_captures down1 idle) s u (d keep_all (λ i. i) (λ i. i)) code)))

held-setext : (x : Setext) (s : State) → Safe (Does (holds x).does s) (holding x s)
held-setext hold s = chain _ (taken s) (λ (b, u) d. on (does-after (with_captures down1 (waiting (1 ∷ []) (2 ∷ []))) s u (set_setext (some b) u) (d (turns (1 ∷ []) (2 ∷ [])) (λ i. i) (λ i. i)) (same u (set_setext (some b) u) refl refl refl refl refl)))
held-setext release s = chain _ (any (need s.waiting.setext)) (λ b _. on (wrote (waiting (2 ∷ []) (1 ∷ [])) s (set_setext none s) (unmoved (turns (2 ∷ []) (1 ∷ [])) s (set_setext none s) refl refl refl refl (λ i. i) (λ i. i)) b))

moded : (x : Mode) (s : State) → Safe (Does (modes x).does s) (setting x s)
moded (set flag v) s = on (same s (set_flag flag v s) refl refl refl refl refl)
moded leave_image s = left s
moded (open_container v) s = on (opens-container v s)
moded close_container s = on (closes-container s)

awaited : (x : Wait) (t : Turn) (s : State) → Safe (Does (waits x).does s) (awaiting x t s)
awaited keep_rank t s = chain _ (any (slice_of t.text (span_of t.event))) (λ b _. on (unmoved (turns (0 ∷ []) []) s (set_rank (some (length b)) s) refl refl refl refl (λ i. i) (λ i. i)))
awaited forget_rank t s = on (unmoved (turns [] (0 ∷ [])) s (set_rank none s) refl refl refl refl (λ i. i) (λ i. i))
awaited (seen_data none) t s = on (unmoved (turns [] (3 ∷ [])) s (set_seen none s) refl refl refl refl (λ i. i) (λ i. i))
awaited (seen_data (some v)) t s = on (unmoved (turns (3 ∷ []) []) s (set_seen (some v) s) refl refl refl refl (λ i. i) (λ i. i))
awaited (fences none) t s = on (unmoved (turns [] (4 ∷ [])) s (set_fences none s) refl refl refl refl (λ i. i) (λ i. i))
awaited (fences (some v)) t s = on (unmoved (turns (4 ∷ []) []) s (set_fences (some v) s) refl refl refl refl (λ i. i) (λ i. i))
awaited count_fence t s = chain _ (any (need s.waiting.fences)) (λ v _. on (unmoved (turns (4 ∷ []) []) s (set_fences (some (suc v)) s) refl refl refl refl (λ i. i) (λ i. i)))
awaited (marker m) t s = on (unmoved (turns (5 ∷ []) (10 ∷ [])) s (set_marker (some m) s) refl refl refl refl (λ i. i) (λ i. i))
awaited reference t s =
    chain _ (any (need s.waiting.marker)) (λ m _. chain _ (any (own_str t)) (λ b _. chain _ (any (need (reference_for s.fixed.names m b))) (λ c _.
    on (wrote-encoded (waiting (10 ∷ []) (5 ∷ [])) s (set_marker none s) (unmoved (turns (10 ∷ []) (5 ∷ [])) s (set_marker none s) refl refl refl refl (λ i. i) (λ i. i)) c))))
awaited (first v) t s = on (unmoved (turns (6 ∷ []) []) s (set_first (some v) s) refl refl refl refl (λ i. i) (λ i. i))

counted : (x : Column) (t : Turn) (s : State) → Safe (Does (counts x).does s) (counting x t s)
counted columns t s = on (unmoved (turns (7 ∷ []) (8 ∷ 9 ∷ [])) s (set_aligns (some (alignments_of t.event)) s) refl refl refl refl tt tt)
counted no_columns t s = on (unmoved (turns [] (7 ∷ 8 ∷ 9 ∷ [])) s (set_aligns none s) refl refl refl refl tt tt)
counted next_column t s = on (unmoved (turns [] (8 ∷ 9 ∷ [])) s (set_column (suc s.table.column) s) refl refl refl refl tt tt)
counted first_column t s = on (unmoved (turns [] (8 ∷ 9 ∷ [])) s (set_column 0 s) refl refl refl refl tt tt)

stored : (p : M.Part) (fs : List Say) (s : State) → Safe (Does (with_captures down1 (with_media changed fs idle)) s) (take_capture s >>= λ (b, u). on_newest (with_part p b) u)
stored p fs s = chain _ (taken s) (λ (b, u) d. let k = d keep_all (λ i. i) (λ i. i) in on-newest (with_captures down1 idle) fs (with_part p b) s u k k.stack)

known : (x : Medium) (t : Turn) (s : State) → Safe (Does (knows x).does s) (knowing x t s)
known (open_media image) t s = on (with-media idle over _ (new_media image ∷ s.media) s s (stays s) (new_media image, refl))
known close_media t s = chain _ (newest s) (λ (m, ms) e. on (with-media idle gone _ ms s s (stays s) (m, e)))
known (store M.label) t s = stored M.label _ s
known (store M.destination) t s = stored M.destination _ s
known (store M.title) t s = stored M.title _ s
known empty_destination t s = on-newest idle _ (set_destination (own [])) s s (stays s) refl
known (identify M.label_id) t s = on-newest idle _ (with_id M.label_id (span_of t.event)) s s (stays s) refl
known (identify M.reference_id) t s = on-newest idle _ (with_id M.reference_id (span_of t.event)) s s (stays s) refl
known seek_definition t s = sought t _ s

kept : (x : Keep) (t : Turn) (s : State) → Safe (Does (keeps x).does s) (keeping x t s)
kept keep_definition t s = defines t s
kept footnote_label t s = on (labels t s)
kept keep_footnote t s = keeps-body t s
kept call t s = called t s

performed : (x : Step) (t : Turn) (s : State) → Safe (Does (act x).does s) (perform x t s)
unfolding act
performed (write x) t s = chain _ (any (text_of x t s)) (λ b _. on (wrote idle s s (stays s) b))
performed (capture x) t s = captured x s
performed (setext x) t s = held-setext x s
performed (mode x) t s = moded x s
performed (wait x) t s = awaited x t s
performed (column x) t s = counted x t s
performed (medium x) t s = known x t s
performed (retain x) t s = kept x t s

-- ---- commands, from a state b on

module _ (n : ℕ) (b : State) where
  -- to a state whose shape passes a test
  abbrev pub Found : (Shape → Bool) → State → Type 0
  Found f u = (y : Shape) × Holds y b u × T (f y)

  stepped : (c : Contract) (x : Shape) (f : Shape → Bool) (s : State) {o : Outcome State} → T (steps n x c f) → Holds x b s → Safe (Does c.does s) o → Safe (Found f) o
  stepped c x f s g h (halts w) = stops
  stepped c x f s g h (on {a = u} d) = let p = each (meets x c ∷ small n (seq x c.does) ∷ f (seq x c.does) ∷ []) g in on (seq x c.does, holds_later x c b s u p.0 h d, p.1.1.0)

  repeated : (w : Shape) (F : State → Outcome State) (f : Shape → Bool) → T (f w) → ((s : State) → Holds w b s → Safe (Found (λ y. covers y w)) (F s)) → (m : ℕ) (s : State) → Holds w b s → Safe (Found f) (repeat m F s)
  repeated w F f t i zero s h = on (w, h, t)
  repeated w F f t i (suc m) s h = chain _ (i s h) (λ u (y, k, j). repeated w F f t i m u (holds-less y w b u j k))

  pub held : (c : Command) (t : Turn) (x : Shape) (f : Shape → Bool) (s : State) → T (goes n c x f) → Holds x b s → Safe (Found f) (exec c t s)
  unfolding goes exec
  held nothing t x f s g h = on (x, h, g)
  held (step a) t x f s g h = stepped (act a) x f s g h (performed a t s)
  held (c ▸ d) t x f s g h = chain _ (held c t x (λ y. goes n d y f) s g h) (λ u (y, k, i). held d t y f u i k)
  held (whether q c d) t x f s g h =
      chain _ (way t x (λ y. goes n c y f) (λ y. goes n d y f) b s h q g) (elim [ true ↦ λ (y, k, i). held c t y f s i k | false ↦ λ (y, k, i). held d t y f s i k ])
  held (missing_cells c) t x f s g h =
      let p = each (waits_for 7 x ∷ covers x (any_cell x) ∷ goes n c (any_cell x) (λ y. covers y (any_cell x)) ∷ f (any_cell x) ∷ []) g in
      chain _ (any (need s.table.aligns)) (λ xs _. repeated (any_cell x) (λ u. exec c t u) f p.1.1.1.0 (λ u k. held c t (any_cell x) (λ y. covers y (any_cell x)) u p.1.1.0 k) (length xs - s.table.column) s (holds-less x (any_cell x) b s p.1.0 h))
