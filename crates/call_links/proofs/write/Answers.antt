-- A URL is inside the text, and refused for its room, or written with its length. Assumes nothing.
use Rattle.call_links.proofs.Laws.{begins, ends-after, ends-within, is_word, has-place, goes, no_room_lem, ended}
use Rattle.std.proofs.Common.{rules}
use Rattle.call_links.proofs.write.Goals as goal

pub loop-i-init : goal.loop-i-init
loop-i-init c = search (begins, rules)

pub slice_bounds-append-count : goal.slice_bounds-append-count
slice_bounds-append-count c = search ends-after

pub slice_bounds-append-start : goal.slice_bounds-append-start
slice_bounds-append-start c = search ends-after

pub slice_bounds-append-end : goal.slice_bounds-append-end
slice_bounds-append-end c = search ends-within

pub returns-then-out-behind : goal.returns-then-out-behind
returns-then-out-behind c = search no_room_lem

pub overflow_cast-lengths : goal.overflow_cast-lengths
overflow_cast-lengths c = search is_word

pub bounds-lengths-i : goal.bounds-lengths-i
bounds-lengths-i c = search has-place

pub loop-i-preserved : goal.loop-i-preserved
loop-i-preserved c = (search rules, search rules, search goes)

pub returns : goal.returns
returns c = search ended
