-- By the variant.
use borrow.Author.Rules.{rules}
use Rattle.on_media.proofs.Leads.{leads-nowhere, leads-own, leads-defined}
use Rattle.on_media.proofs.show_destination.Goals as goal

pub returns-in-Nowhere : goal.returns-in-Nowhere
returns-in-Nowhere c = leads-nowhere (search rules)

pub returns-in-Own : goal.returns-in-Own
returns-in-Own c = leads-own c.is_image-image.ensures (search rules) c.write_url.ensures

pub returns-in-Defined : goal.returns-in-Defined
returns-in-Defined c = leads-defined c.is_image-image.ensures (search rules) c.definition_place-place.ensures c.definition_length-n.ensures c.write_url-in-Defined.ensures
