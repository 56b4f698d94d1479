-- All eight, or the run before the first mark and then the rest. Assumes nothing.
use Rattle.normalize_uri.proofs.Runs.{eight-whole, shift-less, rest-word, eight-run}
use Rattle.std.proofs.Common.{rules}
use Rattle.normalize_uri.proofs.put_eight.Goals as goal

pub returns-then-word-eq0 : goal.returns-then-word-eq0
returns-then-word-eq0 c = search (eight-whole, rules)

pub overflow_shr-word : goal.overflow_shr-word
overflow_shr-word c = search shift-less

pub put_rest-requires : goal.put_rest-requires
put_rest-requires c = (search rules, search rules, search rest-word)

pub returns : goal.returns
returns c = search (eight-run, rules)
