-- What is given to a turn is enough for its commands. Assumes nothing.
use mathlib.Core.Bool.{Bool, ◌&&◌}
use lib.Dec.{T}
use Rattle.machine.specs.State.{State}
use Rattle.machine.specs.Turn.{Turn}
use Rattle.machine.specs.Test.{Test, is, is_tight, is_in_container, is_image, has_rank, has_seen_data, is_first_fence, is_fenced_once, is_fence_missing, is_first_marker, is_past_columns, is_ordered, is_loose, is_underlined_by_dashes, is_last, is_html_allowed, is_behind_fence, is_behind_definition, is_tight_paragraph, is_empty_item}
use Rattle.machine.specs.Command.{Command, nothing, step, ◌▸◌, whether, missing_cells, Step, write, capture, setext, mode, wait, column, medium, retain, Source, given, made, rank, start, alignment, part, Capture, buffer, drop, resume, resume_code, Wait, keep_rank, forget_rank, seen_data, fences, count_fence, marker, reference, first, Medium, open_media, close_media, store, empty_destination, identify, seek_definition, Keep, keep_definition, footnote_label, keep_footnote, call}
use Rattle.machine_shape.specs.Right.{Asks, Told, Captured, Awaited, Known, Kept, RightStep, Right}
use Rattle.machine_shape.proofs.Says.{both}
use Rattle.machine_never.specs.Needs as needs
use Rattle.machine_never.specs.Needs.{Need, need_written, need_captured, need_awaited, need_known, need_kept, need_of, ask_of, Fact, simple}

-- ---- what is given is enough

module _ (t : Turn) (enough : Need → Bool) (facts : (n : Need) → T (enough n) → Fact n t) where
  asked : (q : Test) → T (enough (ask_of q)) → Asks q t
  unfolding ask_of Asks
  asked (is flag) g = tt
  asked is_tight g = tt
  asked is_in_container g = tt
  asked is_image g = tt
  asked has_rank g = tt
  asked has_seen_data g = tt
  asked is_first_fence g = tt
  asked is_fenced_once g = tt
  asked is_fence_missing g = tt
  asked is_first_marker g = tt
  asked is_past_columns g = tt
  asked is_ordered g = tt
  asked is_loose g = tt
  asked is_underlined_by_dashes g = facts needs.begins g
  asked is_last g = tt
  asked is_html_allowed g = tt
  asked is_behind_fence g = facts needs.follows g
  asked is_behind_definition g = tt
  asked is_tight_paragraph g = facts needs.looks g
  asked is_empty_item g = facts needs.looks g

  told : (x : Source) → T (enough (need_written x)) → Told x t
  told (given x) g = tt
  told (made x) g = (facts needs.slices g).0
  told rank g = tt
  told start g = facts needs.starts g
  told alignment g = tt
  told (part p) g = tt

  captured : (x : Capture) → T (enough (need_captured x)) → (s : State) → Captured x s
  captured buffer g s = tt
  captured drop g s = tt
  captured (resume before after) g s = tt
  captured resume_code g s = absurd (facts needs.more g)

  awaited : (x : Wait) → T (enough (need_awaited x)) → (s : State) → Awaited x t s
  awaited keep_rank g s = (facts needs.slices g).1
  awaited forget_rank g s = tt
  awaited (seen_data v) g s = tt
  awaited (fences v) g s = tt
  awaited count_fence g s = tt
  awaited (marker m) g s = tt
  awaited reference g s = absurd (facts needs.more g)
  awaited (first v) g s = tt

  known : (x : Medium) → T (enough (need_known x)) → (s : State) → Known x t s
  known (open_media image) g s = tt
  known close_media g s = tt
  known (store p) g s = tt
  known empty_destination g s = tt
  known (identify id) g s = tt
  known seek_definition g s = absurd (facts needs.more g)

  kept : (x : Keep) → T (enough (need_kept x)) → (s : State) → Kept x t s
  kept keep_definition g s = absurd (facts needs.more g)
  kept footnote_label g s = tt
  kept keep_footnote g s = absurd (facts needs.more g)
  kept call g s = absurd (facts needs.more g)

  right-step : (x : Step) → T (enough (need_of x)) → (s : State) → RightStep x t s
  unfolding need_of
  right-step (write x) g s = told x g
  right-step (capture x) g s = captured x g s
  right-step (setext x) g s = tt
  right-step (mode x) g s = tt
  right-step (wait x) g s = awaited x g s
  right-step (column x) g s = tt
  right-step (medium x) g s = known x g s
  right-step (retain x) g s = kept x g s

  pub given-right : (c : Command) → T (simple enough c) → (s : State) → Right c t s
  unfolding simple Right
  given-right nothing g s = tt
  given-right (step x) g s = right-step x g s
  given-right (c ▸ d) g s = let p = both (simple enough c) (simple enough d) g in (given-right c p.0 s, λ u e. given-right d p.1 u)
  given-right (whether q c d) g s =
      let p = both (enough (ask_of q)) (simple enough c && simple enough d) g in
      let r = both (simple enough c) (simple enough d) p.1 in
      (asked q p.0, given-right c r.0 s, given-right d r.1 s)
  given-right (missing_cells c) g s = λ u. given-right c g u
