-- What is left is to write the blocks from `index` on, and they have room.
use Rattle.std.proofs.Common.{◌+◌, ◌-◌, ◌*◌, ◌≤◌, length, drop}
use Rattle.lent.proofs.Writing.{Due}
use Rattle.bundle_run.specs.Run.{run_of}
use Rattle.bundle_block_writer.proofs.write_run.Given as goal

abbrev pub invariant-loop-index : goal.invariant-loop-index
invariant-loop-index l = (l.from ≤ length l.given) × (l.out.at + 512 * (l.end - l.index) ≤ length l.out.bytes.now) × Due (run_of l.edition l.kind l.room l.start (l.end - l.start) l.given) l.initial.out (run_of l.edition l.kind l.room l.index (l.end - l.index) (drop l.from l.given)) l.out
