-- The loop's invariant: what is left is to append what the blocks from `i` on hold. Assumes nothing.
use Rattle.std.proofs.Common.{◌-◌, ◌*◌, drop}
use Rattle.lent.proofs.Writing.{Due}
use Rattle.bundle_run.specs.Run.{held_in}
use Rattle.bundle_run.proofs.copy_run.Given as goal

abbrev pub invariant-loop-i : goal.invariant-loop-i
invariant-loop-i l = Due (held_in l.room l.count l.used l.blocks) l.initial.out (held_in l.room (l.count - l.i) l.left (drop (512 * l.i) l.blocks)) l.out
