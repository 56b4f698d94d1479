-- By the variant.
use Rattle.std.proofs.Common.{rules}
use Rattle.on_media.proofs.Titles.{own-unset, own-shown}
use Rattle.on_media.proofs.show_own_title.Goals as goal

pub returns-in-None : goal.returns-in-None
returns-in-None c = own-unset (search rules)

pub returns-in-Some : goal.returns-in-Some
returns-in-Some c = own-shown (search rules) c.write_title.ensures
