-- A special byte, or one that stays. Assumes nothing.
use Rattle.lent.proofs.Writing.{by}
use Rattle.encode_byte.proofs.Laws.{plain, special}
use Rattle.encode_byte.proofs.put_byte.Goals as goal

pub returns-then-is_special : goal.returns-then-is_special
returns-then-is_special c = search (by, special)

pub returns : goal.returns
returns c = search (by, plain)
