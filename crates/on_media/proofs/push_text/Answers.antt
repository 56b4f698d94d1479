-- By the answer, one after the other.
use borrow.Author.Rules.{rules}
use Rattle.on_media.proofs.Tests.{image-known, page-yes, page-no, page-idle}
use Rattle.write_held.proofs.Pages.{then-on-page}
use Rattle.on_media.proofs.push_text.Goals as goal

pub returns-then-is_image : goal.returns-then-is_image
returns-then-is_image c = page-yes (image-known c.is_image.ensures) (search rules) page-idle

pub returns : goal.returns
returns c = page-no (image-known c.is_image.ensures) (search rules) (then-on-page c.show_label-shown.ensures c.put_end_tag.ensures (λ a. tt))
