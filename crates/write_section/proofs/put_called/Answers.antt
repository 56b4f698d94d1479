-- The label and the body are those of the call. Assumes nothing.
use Rattle.write_section.proofs.Tables.{called-unordered, called-outside, called-nothing, called-found}
use Rattle.write_section.proofs.put_called.Goals as goal

pub returns-then-to-from : goal.returns-then-to-from
returns-then-to-from c = search called-unordered

pub returns-then-text-to : goal.returns-then-text-to
returns-then-text-to c = search called-outside

pub returns-in-Some : goal.returns-in-Some
returns-in-Some c = search called-found

pub returns-in-None : goal.returns-in-None
returns-in-None c = search called-nothing
