-- By the answer.
use borrow.Author.Rules.{rules}
use Rattle.on_media.proofs.Tests.{image-known, page-yes, page-no, page-idle}
use Rattle.on_media.proofs.Writes.{puts-page}
use Rattle.on_media.proofs.put_alt.Goals as goal

pub returns-then-is_image : goal.returns-then-is_image
returns-then-is_image c = page-yes (image-known c.is_image.ensures) (search rules) (puts-page c.write_text.ensures)

pub returns : goal.returns
returns c = page-no (image-known c.is_image.ensures) (search rules) page-idle
