-- By the variant.
use borrow.Author.Rules.{rules}
use Rattle.on_definition.proofs.Stays.{seeks-nowhere, stays-own, stays-defined}
use Rattle.on_definition.proofs.seek_definition.Goals as goal

pub returns-in-Nowhere : goal.returns-in-Nowhere
returns-in-Nowhere c = seeks-nowhere (search rules) c.seek_label.ensures

pub returns-in-Own : goal.returns-in-Own
returns-in-Own c = search stays-own

pub returns-in-Defined : goal.returns-in-Defined
returns-in-Defined c = search stays-defined
