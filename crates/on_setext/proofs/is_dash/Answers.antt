-- By the byte that is read.
use borrow.Author.Rules.{rules}
use Rattle.on_setext.proofs.Dashes.{dash-missing, dash-read}
use Rattle.on_setext.proofs.is_dash.Goals as goal

pub returns-then-text-at : goal.returns-then-text-at
returns-then-text-at c = dash-missing (search rules)

pub returns : goal.returns
returns c = dash-read
