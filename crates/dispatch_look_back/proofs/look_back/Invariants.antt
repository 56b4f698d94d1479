-- The loop's invariant: what is found from here is what is found at all. Assumes nothing.
use Rattle.dispatch_look_back.proofs.Laws.{Walks}
use Rattle.dispatch_look_back.proofs.look_back.Given as goal

abbrev pub invariant-loop-k : goal.invariant-loop-k
invariant-loop-k l = Walks l.events l.initial.k l.k l.depth
