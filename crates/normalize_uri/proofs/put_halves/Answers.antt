-- Copied, or eight and eight. Assumes nothing.
use Rattle.lent.proofs.Writing.{by}
use Rattle.normalize_uri.proofs.Runs.{halves-clear, halves-put}
use Rattle.normalize_uri.proofs.put_halves.Goals as goal

pub returns-then-low-high : goal.returns-then-low-high
returns-then-low-high c = search (by, halves-clear)

pub returns : goal.returns
returns c = search halves-put
