-- By what `number_in` says. Assumes nothing.
use Rattle.write_pieces.proofs.Values.{starts, starts-not}
use Rattle.write_pieces.proofs.put_start.Goals as goal

pub returns-in-Some : goal.returns-in-Some
returns-in-Some c = search starts

pub returns-in-None : goal.returns-in-None
returns-in-None c = search starts-not
