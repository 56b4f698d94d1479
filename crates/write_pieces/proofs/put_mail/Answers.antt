-- The scheme stays as it is. Assumes nothing.
use Rattle.write_pieces.proofs.Addresses.{mailed}
use Rattle.write_pieces.proofs.put_mail.Goals as goal

pub returns : goal.returns
returns c = search mailed
