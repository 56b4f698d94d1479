-- What the inner functions do: no part of a promise. Assumes nothing.
use Rattle.std.specs.Prelude.{Some}
use Rattle.std.specs.Prelude.{◌≡◌, Bool, List, ℕ, suc, ◌≤◌, ◌<◌, length, take, drop}
use Rattle.regions.specs.Sizes.{region_size}
use Rattle.machine.specs.Buffers.{push}
use Rattle.machine.specs.Footnote.{address_of, call_text}
use Rattle.machine.specs.Words.{call}
use Rattle.state_buffers.specs.declared.Buffers.{Buffers}
use Rattle.state_buffers.specs.Stand as Stand
use Rattle.state_media.specs.declared.Span.{Span}
use Rattle.state_kept.specs.Kept.{LabelIs}
use Rattle.state_whole.specs.declared.Whole.{Whole}
use Rattle.state_whole.specs.Whole.{Held}
use Rattle.on_footnote.specs.Footnotes.{OnCalls}

-- the newest medium is known by this slice
pub record CallsLabel (p : Span) (b : Whole) (text work out calls : List ℕ) (r : Whole) (work' out' calls' : List ℕ) : Type 0 where
  pub calls-label : b.links.media.label_id ≡ Some p → OnCalls Held call b text work out calls r work' out' calls'

-- a call to the newest buffer; what stands behind the captures stays
pub record Written (t : List ℕ) (b : Buffers) (work out : List ℕ) (r : Buffers) (work' out' : List ℕ) : Type 0 where
  pub keeps : Stand.Keeps (push t) b (take region_size work) out r (take region_size work') out'
  pub behind : drop region_size work' ≡ drop region_size work

pub record WritesCall (apostrophes : Bool) (b : Buffers) (text : List ℕ) (from to index times : ℕ) (work out : List ℕ) (r : Buffers) (work' out' : List ℕ) : Type 0 where
  pub writes : (label : List ℕ) → LabelIs text from to label → index < 64 → region_size ≤ length work → Written (call_text (address_of apostrophes label) (suc index) times) b work out r work' out'
