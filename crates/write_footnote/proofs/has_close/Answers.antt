-- Four bytes compared are four bytes of the text. Assumes nothing.
use Rattle.write_footnote.proofs.Bodies.{four_bytes}
use Rattle.write_footnote.proofs.has_close.Goals as goal

pub returns : goal.returns
returns c = search four_bytes
