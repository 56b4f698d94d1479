-- The scheme is listed. Assumes nothing.
use Rattle.std.proofs.Common.{rules}
use Rattle.write_pieces.proofs.Pushed.{pushed-mail}
use Rattle.write_pieces.proofs.push_mail.Goals as goal

pub returns : goal.returns
returns c = search (rules, pushed-mail)
