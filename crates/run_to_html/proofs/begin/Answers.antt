use Rattle.run_to_html.proofs.Start.{begun}
use Rattle.run_to_html.proofs.begin.Goals as goal

pub returns : goal.returns
returns c = let kept = c.new-kept.ensures in let links = c.new-links.ensures in rw (kept, links) (begun c.new.ensures)
