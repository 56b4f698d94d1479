-- The buffers alone change.
use native.Mathlib.Omega.{arith}
use Rattle.on_media.proofs.Writes.{writes-piece}
use Rattle.on_media.proofs.write_piece.Goals as goal

pub returns : goal.returns
returns c = writes-piece c.push_piece-c.ensures (omega (arith, c.push_piece-c.auto))
