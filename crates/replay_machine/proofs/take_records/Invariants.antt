-- The loop's invariant: what the records from `i` on come to is what all of them do. Assumes nothing.
use Rattle.std.proofs.Common.{◌≡◌, ◌+◌, ◌-◌, ◌*◌, length, drop}
use Rattle.replay_machine.specs.Records.{Few, state_of, take_records}
use Rattle.replay_machine.proofs.take_records.Given as goal

abbrev pub invariant-loop-i : goal.invariant-loop-i
invariant-loop-i l = (length l.staged ≡ 256) × (length l.current ≡ 256) × Few (2031585 + l.i) l.came.count
    × (take_records (l.number - l.i) l.came.ended (state_of l.came.count l.staged l.current) (drop (16 * l.i) l.records) ≡ take_records l.number l.initial.came.ended (state_of l.initial.came.count l.initial.staged l.initial.current) l.records)
