-- The calls one after the other: the parts of a bundle, then its end. Assumes nothing.
use Rattle.std.specs.Prelude.{Some, None, ◌≡◌, List, [], ◌∷◌, ◌++◌, ℕ, ◌-◌, length, Ok, Err}
use Rattle.lent.specs.Fill.{zeros}
use Rattle.bundle_block.specs.declared.Refusal.TheVariants.{Short}
use Rattle.bundle_block.specs.Block.{Verdict, ◌before◌, demand}
use Rattle.bundle_read.specs.Read.{answer_of, Numbered, text_bytes, event_bytes}
use Rattle.bundle_parts.specs.Late.{judge_came, text_so_far, events_so_far, call_late}
use Rattle.bundle_parts.specs.Feed.{Stand, refused_at, roomy, feed_of}

-- the parts, one behind the other
abbrev pub joined : List (List ℕ) → List ℕ
joined [] = []
joined (part ∷ parts) = part ++ joined parts

-- fed one after the other; what a call leaves in the buffers the next one finds there
abbrev pub fed_of : Stand → List (List ℕ) → Stand
fed_of s [] = s
fed_of s (part ∷ parts) = fed_of (feed_of s part) parts

-- while more is wanted, with buffers that held t and e before the first call: they hold what has come so far, zeros behind it
pub record SoFar (bundle t e : List ℕ) (s : Stand) : Type 0 where
  pub more : s.progress ≡ None
  pub text : s.text ≡ text_so_far bundle ++ zeros (length t - length (text_so_far bundle))
  pub events : s.events ≡ events_so_far bundle ++ zeros (length e - length (events_so_far bundle))

-- after a part: refusal 1, or that of the first block at fault that has come whole, else more is wanted
abbrev pub judge_fed : (bundle t e : List ℕ) → Verdict
judge_fed bundle t e = demand (roomy t e) Short before judge_came bundle

abbrev pub HasFed : Verdict → (bundle t e : List ℕ) → Stand → Type 0
HasFed (Ok o) bundle t e s = SoFar bundle t e s
HasFed (Err r) bundle t e s = s ≡ refused_at t e r

-- after the end: what the definition makes of the joined bytes
pub record HasReadLate (bundle t e : List ℕ) (s : Stand) : Type 0 where
  pub answer : s.progress ≡ Some (answer_of (call_late bundle (length t) (length e)))
  pub numbers : Numbered (call_late bundle (length t) (length e)) (answer_of (call_late bundle (length t) (length e)))
  pub text : s.text ≡ text_bytes (call_late bundle (length t) (length e)) (length t)
  pub events : s.events ≡ event_bytes (call_late bundle (length t) (length e)) (length e)
