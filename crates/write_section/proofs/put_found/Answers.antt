-- The body is the piece of the kept bytes. Assumes nothing.
use Rattle.write_section.proofs.Tables.{work-short, place-outside, length-outside, body-there}
use Rattle.write_section.proofs.put_found.Goals as goal

pub returns-then-work-ne-WORK : goal.returns-then-work-ne-WORK
returns-then-work-ne-WORK c = search work-short

pub returns-then-place-gt-SIZE : goal.returns-then-place-gt-SIZE
returns-then-place-gt-SIZE c = search place-outside

pub returns-then-place-n : goal.returns-then-place-n
returns-then-place-n c = search length-outside

pub returns : goal.returns
returns c = search body-there
