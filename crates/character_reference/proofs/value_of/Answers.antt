-- By the marker. Assumes nothing.
use Rattle.character_reference.proofs.Laws.{by_name, by_digits, by-hexadecimal-digits}
use Rattle.character_reference.proofs.value_of.Goals as goal

pub returns-in-Named : goal.returns-in-Named
returns-in-Named c = search by_name

pub returns-in-Decimal : goal.returns-in-Decimal
returns-in-Decimal c = search by_digits

pub returns-in-Hexadecimal : goal.returns-in-Hexadecimal
returns-in-Hexadecimal c = search by-hexadecimal-digits
