-- The machine over turns, without limits and without the footnote section. Assumes nothing.
use Rattle.std.specs.Prelude.{List, [], ◌∷◌}
use Rattle.machine.specs.Outcome.{Outcome, go, ◌>>=◌}
use Rattle.machine.specs.State.{State}
use Rattle.machine.specs.Turn.{Turn}
use Rattle.machine.specs.Handlers.{handle}

unfoldable pub through : List Turn → State → Outcome State
through [] s = go s
through (t ∷ ts) s = handle t s >>= λ u. through ts u
