-- An event that is no label, or two that may be. Assumes nothing.
use Rattle.std.proofs.Common.{rules}
use Rattle.check_labels.proofs.Signatures.{signing_end}
use Rattle.check_labels.proofs.Next.{plain-definition, plain-footnote}
use Rattle.check_labels.proofs.sign.Goals as goal

pub loop-i-preserved-then-is_plain : goal.loop-i-preserved-then-is_plain
loop-i-preserved-then-is_plain c = search (plain-definition, plain-footnote, rules)

pub returns : goal.returns
returns c = search (signing_end, rules)
