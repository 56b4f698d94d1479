-- The old digit is taken out, and the new one is put in.
use Rattle.std.proofs.Common.{rules}
use Rattle.packed.proofs.Digits.{is-there, still-fits, places}
use Rattle.packed.proofs.with_digit.Goals as goal

pub overflow_sub-result : goal.overflow_sub-result
overflow_sub-result c = search (is-there, rules)

pub overflow_add-result : goal.overflow_add-result
overflow_add-result c = record { fits = search (still-fits, rules) }

pub returns : goal.returns
returns c = search (places, rules)
