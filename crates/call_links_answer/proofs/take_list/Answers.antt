-- By the sizes, the ends, UTF-8, and the ends again. Assumes nothing.
use Rattle.call_links_answer.proofs.Laws.{too_long, too_few, end-wrong, not-utf8, cut, taken}
use Rattle.call_links_answer.proofs.take_list.Goals as goal

pub returns-then-text-gt-MOST_TEXT : goal.returns-then-text-gt-MOST_TEXT
returns-then-text-gt-MOST_TEXT c = search too_long

pub returns-then-places-ends : goal.returns-then-places-ends
returns-then-places-ends c = search too_few

pub returns-then-in_order-ends : goal.returns-then-in_order-ends
returns-then-in_order-ends c = search end-wrong

pub returns-then-not-is_utf8 : goal.returns-then-not-is_utf8
returns-then-not-is_utf8 c = search not-utf8

pub returns-in-Some : goal.returns-in-Some
returns-in-Some c = search cut

pub returns : goal.returns
returns c = search taken
