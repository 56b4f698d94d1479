use Rattle.run_to_html.proofs.Both.{renders}
use borrow.Author.Rules.{rules}
use Rattle.run_to_html.proofs.to_html.Goals as goal

pub returns : goal.returns
returns c = renders c.find_ending-ending.ensures c.begin-b.ensures c.requires (search rules) (record { definitions = search rules; footnotes = search rules; calls = search rules; labels = search rules }) c.compile.ensures
