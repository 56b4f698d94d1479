use mathlib.Core.Path.{sym, ◌∙◌}
use Rattle.run_next.proofs.Left.{stays_out, stays-entered, stays_by}
use Rattle.run_next.proofs.stays_inside.Goals as goal

pub returns-then-kind_at-eq-ENTER : goal.returns-then-kind_at-eq-ENTER
returns-then-kind_at-eq-ENTER c = stays-entered _ _ (sym c.is_here.ensures ∙ c.if-is_here.true) c.kind_at.ensures c.if-kind_at-eq-ENTER.true

pub returns-then-is_here : goal.returns-then-is_here
returns-then-is_here c = stays_by _ _ (sym c.is_here.ensures ∙ c.if-is_here.true) c.kind_at.ensures c.if-kind_at-eq-ENTER.false c.name_at.ensures

pub returns : goal.returns
returns c = stays_out _ _ (sym c.is_here.ensures ∙ c.if-is_here.false)
