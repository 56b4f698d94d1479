-- Spaces stay as they are. Assumes nothing.
use Rattle.write_pieces.proofs.Padded.{padded}
use Rattle.write_pieces.proofs.put_padded.Goals as goal

pub returns : goal.returns
returns c = search padded
