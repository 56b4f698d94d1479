-- A window, a block, or the last bytes. Assumes nothing.
use Rattle.lent.proofs.Writing.{all, step, last}
use Rattle.normalize_uri.proofs.Laws.{block_more}
use Rattle.normalize_uri.proofs.Runs.{window}
use Rattle.std.proofs.Common.{rules}
use Rattle.normalize_uri.proofs.put_url.Goals as goal

pub loop-i-init : goal.loop-i-init
loop-i-init c = (search rules, all)

pub loop-i-preserved-then-is_run : goal.loop-i-preserved-then-is_run
loop-i-preserved-then-is_run c = (search rules, search (step, window))

pub loop-i-preserved : goal.loop-i-preserved
loop-i-preserved c = (search rules, search (step, block_more))

pub returns : goal.returns
returns c = search last
