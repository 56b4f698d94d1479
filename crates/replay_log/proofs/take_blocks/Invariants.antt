-- The loop's invariant: what the blocks from `i` on come to is what all of them do. Assumes nothing.
use Rattle.std.proofs.Common.{◌≡◌, ◌+◌, ◌-◌, ◌*◌, ◌/◌, length, drop}
use Rattle.replay_machine.specs.Records.{state_of}
use Rattle.replay_log.specs.Log.{take_blocks}
use Rattle.replay_log.specs.Stream.{Within}
use Rattle.replay_log.proofs.take_blocks.Given as goal

abbrev pub invariant-loop-i : goal.invariant-loop-i
invariant-loop-i l = (l.number ≡ length l.blocks / 512) × (length l.staged ≡ 256) × (length l.current ≡ 256) × Within (l.index + l.i) l.came.count
    × (take_blocks l.edition (l.index + l.i) (l.number - l.i) l.came.ended (state_of l.came.count l.staged l.current) (drop (512 * l.i) l.blocks) ≡ take_blocks l.edition l.index l.number l.initial.came.ended (state_of l.initial.came.count l.initial.staged l.initial.current) l.blocks)
