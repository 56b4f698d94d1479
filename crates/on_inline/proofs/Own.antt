-- The event's own slice, where the machine goes on with it. Assumes nothing.
use mathlib.Core.Path.{◌≡◌}
use mathlib.Core.List.{List}
use Prim.Native.Nat.{ℕ, ◌-◌}
use lib.ListN.{take, drop}
use Rattle.utf8.specs.Utf8.{is_utf8}
use Rattle.event.specs.declared.Event.{Event}
use Rattle.machine.specs.Outcome.{go}
use Rattle.machine.specs.Turn.{Turn, as_str, own_str}
use Rattle.state_context.specs.Rel.{Sees}
use Rattle.state_context.proofs.Slices.{passed, Sliced, own-slice}

-- text that is UTF-8 stays as it is
pub as-str : (a b : List ℕ) → as_str a ≡ go b → a ≡ b
unfolding as_str
as-str a b p = (passed (is_utf8 a) p).1

abbrev pub slice_in : List ℕ → Event → List ℕ
slice_in text e = take (e.to.0 - e.from.0) (drop e.from.0 text)

pub own : {text : List ℕ} {e : Event} (t : Turn) (b : List ℕ) → Sees text e t → own_str t ≡ go b → Sliced text e b
own {text} {e} t b v p = own-slice text e t b v p
