use Rattle.run_to_html.proofs.End.{ends-plain, ends-section, ends-over}
use Rattle.run_to_html.proofs.finish.Goals as goal

pub returns-then-k-eq0 : goal.returns-then-k-eq0
returns-then-k-eq0 c = ends-plain c.if-k-eq0.true

pub returns-then-out-end : goal.returns-then-out-end
returns-then-out-end c = rw c.count-n.ensures (ends-over _ c.fixed_in-fixed.ensures c.footnote_section-end.ensures c.if-k-eq0.false c.if-out-end.true)

pub returns : goal.returns
returns c = ends-section _ c.fixed_in-fixed.ensures c.footnote_section-end.ensures c.if-k-eq0.false c.if-out-end.false
