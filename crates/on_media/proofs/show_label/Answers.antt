-- By the variant.
use Rattle.std.proofs.Common.{rules}
use Rattle.on_media.proofs.Shows.{label-unset, label-shown}
use Rattle.on_media.proofs.show_label.Goals as goal

pub returns-in-None : goal.returns-in-None
returns-in-None c = label-unset (search rules)

pub returns-in-Some : goal.returns-in-Some
returns-in-Some c = label-shown (search rules) c.write_piece.ensures
