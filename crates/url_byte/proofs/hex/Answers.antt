-- A digit or a letter. Assumes nothing.
use Rattle.url_byte.proofs.Laws.{hex-low, hex-high}
use Rattle.url_byte.proofs.hex.Goals as goal

pub returns-then-n-lt10 : goal.returns-then-n-lt10
returns-then-n-lt10 c = search hex-low

pub returns-else-n-lt10 : goal.returns-else-n-lt10
returns-else-n-lt10 c = search hex-high
