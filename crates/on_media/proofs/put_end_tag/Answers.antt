-- By the flag.
use borrow.Author.Rules.{rules}
use Rattle.on_media.proofs.Tests.{alt-known, page-yes, page-no, page-idle}
use Rattle.on_media.proofs.Writes.{puts-page}
use Rattle.on_media.proofs.put_end_tag.Goals as goal

pub returns-then-is_alt : goal.returns-then-is_alt
returns-then-is_alt c = page-yes (alt-known c.is_alt.ensures) (search rules) page-idle

pub returns : goal.returns
returns c = page-no (alt-known c.is_alt.ensures) (search rules) (puts-page c.write_text.ensures)
