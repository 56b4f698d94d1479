-- The loop's invariant: with the words that are left, the whole row. Assumes nothing.
use Rattle.state_kept.proofs.Put.{Writing}
use Rattle.state_kept.proofs.put_row.Given as goal

abbrev pub invariant-loop-k : goal.invariant-loop-k
invariant-loop-k l = Writing l.rows l.i l.k l.words l.table l.initial.table
