-- The loop's invariant: parts have come, by which the reader and the buffers stand where they do. Assumes nothing.
use Rattle.notepage.specs.Came.{Came}
use Rattle.notepage.proofs.read_all.Given as goal

abbrev pub invariant-loop : goal.invariant-loop
invariant-loop g l = Came l.initial.text l.initial.events l.reader l.text l.events
