-- By the options. Assumes nothing.
use borrow.Author.Tests.{not-true, not-false}
use Rattle.lent.proofs.Laws.{same}
use Rattle.write_pieces.proofs.Addresses.{any-protocol, of-link, any-image, of_image}
use Rattle.write_pieces.proofs.put_url.Goals as goal

pub returns-then-options : goal.returns-then-options
returns-then-options c = search (same, any-protocol)

pub returns-then-not-image : goal.returns-then-not-image
returns-then-not-image c = search (same, of-link, not-true)

pub returns-then-options-2 : goal.returns-then-options-2
returns-then-options-2 c = search (same, any-image, not-false)

pub returns : goal.returns
returns c = search (same, of_image, not-false)
