-- By the answer.
use borrow.Author.Rules.{rules}
use Rattle.on_media.proofs.Tests.{image-known, page-yes, page-no, page-idle}
use Rattle.on_media.proofs.push_label.Goals as goal

pub returns-then-is_image : goal.returns-then-is_image
returns-then-is_image c = page-yes (image-known c.is_image.ensures) (search rules) c.show_label.ensures

pub returns : goal.returns
returns c = page-no (image-known c.is_image.ensures) (search rules) page-idle
