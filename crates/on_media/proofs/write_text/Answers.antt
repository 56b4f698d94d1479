-- The buffers alone change.
use native.Mathlib.Omega.{arith}
use Rattle.on_media.proofs.Writes.{writes-text}
use Rattle.on_media.proofs.write_text.Goals as goal

pub returns : goal.returns
returns c = writes-text c.push_text-c.ensures (omega (arith, c.push_text-c.auto))
