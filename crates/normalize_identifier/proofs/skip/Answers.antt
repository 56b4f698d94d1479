-- A blank is passed, a byte that is none stops, the end stops. Assumes nothing.
use Rattle.normalize_identifier.proofs.Steps.{skip-more, skip-byte, skip_out}
use Rattle.normalize_identifier.proofs.skip.Goals as goal

pub loop-i-preserved : goal.loop-i-preserved
loop-i-preserved c = search skip-more

pub returns-then-not-is_blank : goal.returns-then-not-is_blank
returns-then-not-is_blank c = search skip-byte

pub returns : goal.returns
returns c = search skip_out
