-- The rest, or eight and the rest. Assumes nothing.
use Rattle.std.proofs.Common.{ap, ◌∙◌, rules}
use Rattle.lent.proofs.Writing.{by}
use Rattle.url_run.specs.Private.{word_of}
use Rattle.normalize_uri.proofs.Laws.{block_last}
use Rattle.normalize_uri.proofs.Runs.{tail-put}
use Rattle.normalize_uri.proofs.put_tail.Goals as goal

pub returns-then-value-i-lt10 : goal.returns-then-value-i-lt10
returns-then-value-i-lt10 c = search (by, block_last)

pub put_eight-requires : goal.put_eight-requires
put_eight-requires c = (search rules, c.word-word.ensures ∙ ap word_of c.mark_all.ensures)

pub returns : goal.returns
returns c = search tail-put
