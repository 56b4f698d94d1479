-- By the length, then by UTF-8. Assumes nothing.
use Rattle.call_text_answer.proofs.Laws.{too_long, taken, not-utf8}
use Rattle.call_text_answer.proofs.take_text.Goals as goal

pub returns-then-text-gt-MOST_TEXT : goal.returns-then-text-gt-MOST_TEXT
returns-then-text-gt-MOST_TEXT c = search too_long

pub returns-then-is_utf8 : goal.returns-then-is_utf8
returns-then-is_utf8 c = search taken

pub returns : goal.returns
returns c = search not-utf8
