-- Two names, then the table. Assumes nothing.
use Rattle.lent.proofs.Same.{same-by-eq}
use Rattle.character_reference.proofs.Options.{is-lang, is-rang, as-newer}
use Rattle.character_reference.proofs.named_4.Goals as goal

pub returns-then-eq : goal.returns-then-eq
returns-then-eq c = is-lang _ _ (same-by-eq _ c.as_slice.ensures c.eq.ensures) c.if-eq.true

pub returns-then-eq-2 : goal.returns-then-eq-2
returns-then-eq-2 c = is-rang _ _ (same-by-eq _ c.as_slice.ensures c.eq.ensures) c.if-eq.false _ (same-by-eq _ c.as_slice-2.ensures c.eq-2.ensures) c.if-eq-2.true

pub returns : goal.returns
returns c = as-newer _ _ (same-by-eq _ c.as_slice.ensures c.eq.ensures) c.if-eq.false _ (same-by-eq _ c.as_slice-2.ensures c.eq-2.ensures) c.if-eq-2.false _ c.named_5.ensures
