-- To the page, or by a copy to the newest capture. Assumes nothing.
use Rattle.write_held.proofs.Pushed.{part-high, part_of, no-url, too_long, url-to-page, url-to-capture}
use mathlib.Core.Path.{ap}
use mathlib.Core.Bool.{not}
use native.Mathlib.Omega.{arith}
use borrow.Author.Rules.{rules}
use Rattle.write_held.proofs.push_url_part.Goals as goal

pub returns-then-not-is_part : goal.returns-then-not-is_part
returns-then-not-is_part c = search no-url

pub returns-then-n-gt-SIZE : goal.returns-then-n-gt-SIZE
returns-then-n-gt-SIZE c = search too_long

pub overflow_add-from : goal.overflow_add-from
overflow_add-from c = omega (arith, part-high _ _ _ c.is_part.ensures (ap not c.if-not-is_part.false))

pub slice_bounds-put_url-end : goal.slice_bounds-put_url-end
slice_bounds-put_url-end c = search (part-high, rules)

pub returns-then-b-eq0 : goal.returns-then-b-eq0
returns-then-b-eq0 c = search url-to-page

pub put_url-requires-2 : goal.put_url-requires-2
put_url-requires-2 c = search part_of

pub returns : goal.returns
returns c = search url-to-capture
