-- To the page, or carried to the newest capture. Assumes nothing.
use Rattle.write_held.proofs.Pushed.{part-high, no_part, part-to-page, part-to-capture}
use mathlib.Core.Path.{ap}
use mathlib.Core.Bool.{not}
use native.Mathlib.Omega.{arith}
use borrow.Author.Rules.{rules}
use Rattle.write_held.proofs.push_part.Goals as goal

pub returns-then-not-is_part : goal.returns-then-not-is_part
returns-then-not-is_part c = search no_part

pub overflow_add-from : goal.overflow_add-from
overflow_add-from c = omega (arith, part-high _ _ _ c.is_part.ensures (ap not c.if-not-is_part.false))

pub slice_bounds-put_all-end : goal.slice_bounds-put_all-end
slice_bounds-put_all-end c = search (part-high, rules)

pub returns-then-b-eq0 : goal.returns-then-b-eq0
returns-then-b-eq0 c = search part-to-page

pub returns : goal.returns
returns c = search part-to-capture
