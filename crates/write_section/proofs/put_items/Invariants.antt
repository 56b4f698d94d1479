-- The loop's invariant: a page stands of which the calls that are left make the last one. Assumes nothing.
use Rattle.write_section.proofs.Items.{Going}
use Rattle.write_section.proofs.put_items.Given as goal

abbrev pub invariant-loop-i : goal.invariant-loop-i
invariant-loop-i l = Going l.k l.fixed l.text l.work l.footnotes l.calls l.initial.out l.at l.i l.out l.r
