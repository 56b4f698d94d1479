-- The reader in parts (RULES R15.9), call by call, on all inputs: what a part and the end make of a state and the two buffers. What calls that follow each other come to is said by the joined bytes (Late, Parts). Assumes nothing.
use Rattle.std.specs.Prelude.{Some, None, Ok, Err, Option, Bool, true, false, not, ◌&&◌, ◌||◌, List, [], ◌∷◌, ◌++◌, ℕ, min, length, take, if◌then◌else◌}
use Rattle.lent.specs.Fill.{zeros}
use Rattle.bundle_block.specs.declared.Refusal.{Refusal}
use Rattle.bundle_block.specs.declared.Refusal.TheVariants.{Short, Broken}
use Rattle.bundle_known.specs.declared.Known.{Known}
use Rattle.bundle_known.specs.Known.{unknown, whole_of, Came, goes, stops, advance_of}
use Rattle.bundle_read.specs.Read.{Answer}
use Rattle.bundle_parts.specs.declared.State.{State}
use Rattle.bundle_parts.specs.declared.Reader.{Reader}
use Rattle.bundle_parts.specs.Late.{is_roomy}

-- the answer, or none while more is wanted
abbrev pub Progress : Type 0
Progress = Option Answer

-- what a state and the buffers say: what is known, a block's rest, whether a byte came behind the last block, and the answer so far
pub record Stand : Type 0 where
  pub known : Known
  pub rest : List ℕ
  pub over : Bool
  pub progress : Progress
  pub text : List ℕ
  pub events : List ℕ

-- of the bytes that a state holds those that are a rest: fewer than a block of 512
abbrev pub rest_of : State → List ℕ → List ℕ
rest_of s rest = take (min s.held 511) rest

abbrev pub standing : State → List ℕ → (t e : List ℕ) → Stand
standing s rest t e = record { known = s.known; rest = rest_of s rest; over = s.over; progress = s.progress; text = t; events = e }

abbrev pub stand_of : Reader → (t e : List ℕ) → Stand
stand_of r t e = standing r.state r.rest t e

-- before the first call
abbrev pub start_of : (t e : List ℕ) → Stand
start_of t e = record { known = unknown; rest = []; over = false; progress = None; text = t; events = e }

abbrev pub is_empty : List ℕ → Bool
is_empty [] = true
is_empty (b ∷ l) = false

-- a refusal: both buffers are zero
abbrev pub refused_at : (t e : List ℕ) → Refusal → Stand
refused_at t e r = record { known = unknown; rest = []; over = false; progress = Some (Err r); text = zeros (length t); events = zeros (length e) }

-- bytes that no whole block takes are kept; behind the last block it is only known that there are some
unfoldable pub kept : (over : Bool) → Known → (t e left : List ℕ) → Stand
kept over k t e left =
    if whole_of k then record { known = k; rest = []; over = over || not (is_empty left); progress = None; text = t; events = e }
    else record { known = k; rest = left; over = over; progress = None; text = t; events = e }

abbrev pub settled : (over : Bool) (t e : List ℕ) → Came → Stand
settled over t e (goes k t' e' left) = kept over k t' e' left
settled over t e (stops r) = refused_at t e r

-- before the first byte the buffers are cleared
abbrev pub fresh : Known → (rest d : List ℕ) → List ℕ
fresh k rest d = if not k.begun && is_empty rest then zeros (length d) else d

-- an answer is repeated, and refusal 1 comes before all that the call brings
abbrev pub unless_done : Progress → Stand → Stand → Stand
unless_done None s next = next
unless_done (Some a) s next = s

abbrev pub roomy : (t e : List ℕ) → Bool
roomy t e = is_roomy (length t) (length e)

abbrev pub called_on : Stand → Stand → Stand
called_on s next = unless_done s.progress s (if roomy s.text s.events then next else refused_at s.text s.events Short)

-- a part
unfoldable pub feed_of : Stand → List ℕ → Stand
feed_of s part =
    called_on s
    (settled s.over s.text s.events
    (advance_of s.known (fresh s.known s.rest s.text) (fresh s.known s.rest s.events) (s.rest ++ part)))

-- the end: the bundle, where every block has come and no byte behind them
abbrev pub answered : (over : Bool) → Known → (t e : List ℕ) → Stand
answered over k t e = record { known = k; rest = []; over = over; progress = Some (Ok (record { text = k.text; events = k.events; edition = k.edition })); text = t; events = e }

abbrev pub closed : (over : Bool) → Known → (t e : List ℕ) → Stand
closed over k t e = if whole_of k && not over then answered over k t e else refused_at t e (Broken 0)

unfoldable pub end_of : Stand → Stand
end_of s = called_on s (closed s.over s.known s.text s.events)
