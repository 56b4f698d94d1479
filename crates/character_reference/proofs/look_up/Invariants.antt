-- The name can only be one of those from `low` up to `high`. Assumes nothing.
use Rattle.std.proofs.Common.{◌-◌}
use Rattle.character_reference.proofs.Search.{Between}
use Rattle.character_reference.proofs.look_up.Given as goal

abbrev pub invariant-loop-low : goal.invariant-loop-low
invariant-loop-low l = Between l.packed l.starts l.codes l.s l.low l.high

abbrev pub decreases-loop-low : goal.decreases-loop-low
decreases-loop-low l = l.high - l.low
