-- What a handler asks before it goes one way or the other. A question may stop too: `unwrap`, an index. Assumes nothing.
use Rattle.std.specs.Prelude.{Bool, true, false, not, ◌&&◌, List, [], ◌∷◌, ℕ, eqb, leb, ltb, length}
use Rattle.std.proofs.Math.Option.{Option, none, some}
use Rattle.std.proofs.Math.ListN.{get_elem?}
use Rattle.event.specs.Event as Event
use Rattle.event.specs.Event.{named}
use Rattle.machine.specs.Outcome.{Outcome, go, ◌>>=◌, need}
use Rattle.machine.specs.State.{State}
use Rattle.machine.specs.Set.{Flag, flag_of}
use Rattle.machine.specs.Turn.{Turn, just_before, is_after_definition, look_back}
use Rattle.machine.specs.Media.{newest_media}

pub data Test : Type 0 where
  -- of the state
  is : Flag → Test  -- the flag
  is_tight : Test  -- the newest container is
  is_in_container : Test
  is_image : Test  -- the newest medium is
  has_rank : Test
  has_seen_data : Test
  is_first_fence : Test
  is_fenced_once : Test
  is_fence_missing : Test
  is_first_marker : Test
  is_past_columns : Test
  -- of the event, its slice, the options
  is_ordered : Test
  is_loose : Test
  is_underlined_by_dashes : Test
  is_last : Test
  is_html_allowed : Test
  -- of the events before
  is_behind_fence : Test
  is_behind_definition : Test
  is_tight_paragraph : Test
  is_empty_item : Test

abbrev pub tight_of : List Bool → Bool
tight_of [] = false
tight_of (b ∷ bs) = b

abbrev pub is_empty : {A : Type 0} → List A → Bool
is_empty [] = true
is_empty (x ∷ xs) = false

-- whether it is set, and f holds
abbrev pub has : (ℕ → Bool) → Option ℕ → Bool
has f none = false
has f (some n) = f n

unfoldable pub test : Test → Turn → State → Outcome Bool
test (is f) t s = go (flag_of f s.flags)
test is_tight t s = go (tight_of s.tight)
test is_in_container t s = go (not (is_empty s.tight))
test is_image t s = newest_media s >>= λ (m, ms). go m.image
test has_rank t s = go (has (λ n. true) s.waiting.rank)
test has_seen_data t s = need s.waiting.seen
test is_first_fence t s = need s.waiting.fences >>= λ n. go (eqb n 0)
test is_fenced_once t s = go (has (eqb 1) s.waiting.fences)
test is_fence_missing t s = go (has (λ n. ltb n 2) s.waiting.fences)
test is_first_marker t s = need s.waiting.first
test is_past_columns t s = need s.table.aligns >>= λ aligns. go (leb (length aligns) s.table.column)
test is_ordered t s = go (named (21 ∷ []) t.event)
test is_loose t s = go (Event.is_loose t.event)
test is_underlined_by_dashes t s = need (get_elem? t.text t.event.from.0) >>= λ b. go (eqb b 45)
test is_last t s = go t.last
test is_html_allowed t s = go t.options.allow_dangerous_html
test is_behind_fence t s = need (just_before t.before) >>= λ e. go (named (29 ∷ []) e)
test is_behind_definition t s = go (is_after_definition t.before)
test is_tight_paragraph t s = need (look_back 0 t.before) >>= λ e. go (tight_of s.tight && named (12 ∷ []) e)
test is_empty_item t s = need (look_back 0 t.before) >>= λ e. go (named (24 ∷ []) e)
