-- What the inner functions answer: no part of a promise. Assumes nothing.
use Rattle.std.specs.Prelude.{Bool, true, false, List, ℕ, ◌-◌, eqb, leb, ltb, length, get_or, if◌then◌else◌}
use Rattle.machine.specs.Buffers.{is_eol}
use Rattle.state_buffers.specs.declared.Buffers.{Buffers}

-- whether the bytes from one place to another are none, or end in a line ending; past the buffer's end any answer will do
unfoldable pub ends_line : List ℕ → (from to : ℕ) → Bool
ends_line d from to = if leb to from then true else (if ltb (length d) to then true else is_eol (get_or d (to - 1) 0))

-- that of the newest buffer
unfoldable pub at_line_start : Buffers → (captures out : List ℕ) → Bool
at_line_start b captures out = if eqb b.depth 0 then ends_line out 0 b.page else ends_line captures b.start b.end

-- no line ending is wanted
abbrev pub needless : (always : Bool) → Buffers → (captures out : List ℕ) → Bool
needless true b captures out = false
needless false b captures out = at_line_start b captures out
