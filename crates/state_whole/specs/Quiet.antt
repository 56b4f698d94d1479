-- Which commands leave media, labels, the setext text and what is kept as they are. Assumes nothing.
use Rattle.std.specs.Prelude.{◌≡◌, Bool, true, false, ◌&&◌}
use Rattle.machine.specs.State.{State}
use Rattle.machine.specs.Command.{Command, nothing, step, ◌▸◌, whether, missing_cells, Step, write, capture, setext, mode, wait, column, medium, retain}

abbrev pub quiet_step : Step → Bool
quiet_step (write x) = true
quiet_step (capture x) = true
quiet_step (setext x) = false
quiet_step (mode x) = true
quiet_step (wait x) = true
quiet_step (column x) = true
quiet_step (medium x) = false
quiet_step (retain x) = false

abbrev pub is_quiet : Command → Bool
is_quiet nothing = true
is_quiet (step x) = quiet_step x
is_quiet (c ▸ d) = is_quiet c && is_quiet d
is_quiet (whether q c d) = is_quiet c && is_quiet d
is_quiet (missing_cells c) = is_quiet c

pub record Rests (s u : State) : Type 0 where
  pub media : u.media ≡ s.media
  pub labels : u.labels ≡ s.labels
  pub kept : u.kept ≡ s.kept
  pub setext : u.waiting.setext ≡ s.waiting.setext
