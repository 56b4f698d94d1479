-- No digit or too many; a digit more; none left. Assumes nothing.
use Rattle.std.proofs.Common.{rules}
use Rattle.character_reference.proofs.Numbers.{none-there, too_many, all_left, no_digit, next-digit, no-digit-left, grows, product-fits, sum_fits}
use Rattle.character_reference.proofs.numeral_of.Goals as goal

pub returns-then-s-lt1 : goal.returns-then-s-lt1
returns-then-s-lt1 c = search none-there

pub returns-then-most-s : goal.returns-then-most-s
returns-then-most-s c = search too_many

pub loop-b-init : goal.loop-b-init
loop-b-init c = search (all_left, rules)

pub returns-then-base-v : goal.returns-then-base-v
returns-then-base-v c = search no_digit

pub overflow_mul-n : goal.overflow_mul-n
overflow_mul-n c = search product-fits

pub overflow_add-n : goal.overflow_add-n
overflow_add-n c = search sum_fits

pub loop-b-preserved : goal.loop-b-preserved
loop-b-preserved c = search (next-digit, grows)

pub returns : goal.returns
returns c = search no-digit-left
