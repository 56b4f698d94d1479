-- A % by what follows it, any other byte by itself. Assumes nothing.
use Rattle.url_byte.proofs.Laws.{stays-percent, stays-other}
use Rattle.url_byte.proofs.is_staying.Goals as goal

pub returns-in-37 : goal.returns-in-37
returns-in-37 c = search stays-percent

pub returns-in_default : goal.returns-in_default
returns-in_default c = search stays-other
