-- The sign and both digits.
use Rattle.url_byte.specs.Byte.{percent}
use Rattle.url_byte.proofs.put_percent.Goals as goal

pub returns : goal.returns
unfolding percent
returns c = rw (← c.hex.ensures, ← c.hex-2.ensures) c.put_all.ensures
