-- The last digit, or the digits before it and then that. Assumes nothing.
use Rattle.write_pieces.proofs.Decimal.{last-digit, behind-digits}
use Rattle.write_pieces.proofs.+put_decimal.Goals as goal

pub returns-then-n-lt10 : goal.returns-then-n-lt10
returns-then-n-lt10 t c = search last-digit

pub returns : goal.returns
returns t c = search behind-digits
