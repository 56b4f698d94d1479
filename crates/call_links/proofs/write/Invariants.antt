-- The loop's invariant: what was written and what is left to write are the whole list. Assumes nothing.
use Rattle.std.proofs.Common.{◌≡◌, length}
use Rattle.call_links.proofs.Laws.{Going}
use Rattle.call_links.proofs.write.Given as goal

abbrev pub invariant-loop-i : goal.invariant-loop-i
invariant-loop-i l = (length l.out ≡ length l.initial.out) × (length l.lengths ≡ length l.initial.lengths) × Going l.apostrophes l.text l.ends l.initial.out l.initial.lengths l.out l.lengths l.i l.from l.at
