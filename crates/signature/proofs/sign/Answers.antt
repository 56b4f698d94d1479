-- `fold` goes over the whole identity, and folds it as the definition does. Assumes nothing.
use Rattle.std.proofs.Common.{rules, tests, ◌∙◌}
use Rattle.std.proofs.lemmas.Iterator.Consumers.{fold_from_yields_List, YieldsList-from_first}
use Rattle.normalize_identifier.specs.Identity.{identity_of}
use Rattle.normalize_identifier.specs.Left.{left}
use Rattle.signature.specs.Signature.{mix, before}
use Rattle.signature.proofs.Laws.{signature-folds}
use Rattle.signature.proofs.sign.Goals as goal

pub returns : goal.returns
returns c =
    fold_from_yields_List _ mix before c.fold.result c.fold.ensures.ran (YieldsList-from_first (λ x. x) left (identity_of c.args.label.now) c.new.ensures) (λ s b t q k. search (rules, tests))
    ∙ signature-folds (identity_of c.args.label.now)
