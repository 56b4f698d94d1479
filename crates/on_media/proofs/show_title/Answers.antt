-- By the variant.
use borrow.Author.Rules.{rules}
use Rattle.on_media.proofs.Whichever.{title-nowhere, title-own, title-defined}
use Rattle.on_media.proofs.show_title.Goals as goal

pub returns-in-Nowhere : goal.returns-in-Nowhere
returns-in-Nowhere c = title-nowhere (search rules) c.show_own_title.ensures

pub returns-in-Own : goal.returns-in-Own
returns-in-Own c = search title-own

pub returns-in-Defined : goal.returns-in-Defined
returns-in-Defined c = title-defined (search rules) c.show_kept_title.ensures
