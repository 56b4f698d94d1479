-- Where a digit breaks the rule, where none is left, and between. Assumes nothing.
use Rattle.write_pieces.proofs.Values.{none-there, too_many, all_left, below-digits, above-digits, next-digit, no-digit-left, grows, product-fits, sum_fits}
use borrow.Author.Rules.{rules}
use Rattle.write_pieces.proofs.number_in.Goals as goal

pub returns-then-s-lt1 : goal.returns-then-s-lt1
returns-then-s-lt1 c = search none-there

pub returns-then-s-gt9 : goal.returns-then-s-gt9
returns-then-s-gt9 c = search too_many

pub loop-b-init : goal.loop-b-init
loop-b-init c = search (all_left, rules)

pub returns-then-b-lt48 : goal.returns-then-b-lt48
returns-then-b-lt48 c = search below-digits

pub returns-then-b-gt57 : goal.returns-then-b-gt57
returns-then-b-gt57 c = search above-digits

pub overflow_mul-n : goal.overflow_mul-n
overflow_mul-n c = search product-fits

pub overflow_add-n : goal.overflow_add-n
overflow_add-n c = search sum_fits

pub loop-b-preserved : goal.loop-b-preserved
loop-b-preserved c = search (next-digit, grows)

pub returns : goal.returns
returns c = search no-digit-left
