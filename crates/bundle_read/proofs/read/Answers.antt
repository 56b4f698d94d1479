-- Refused, or filled. Assumes nothing.
use Rattle.bundle_read.proofs.Bundle.{header-there, texts-there, events-there, text-fits, events-fit, read-bad, read-good}
use Rattle.bundle_read.proofs.read.Goals as goal

pub fill_text-requires : goal.fill_text-requires
fill_text-requires c = search (texts-there, text-fits)

pub fill_events-requires : goal.fill_events-requires
fill_events-requires c = search (events-there, events-fit)

pub header-requires : goal.header-requires
header-requires c = search header-there

pub returns-in-Err : goal.returns-in-Err
returns-in-Err c = search read-bad

pub returns-in-Ok : goal.returns-in-Ok
returns-in-Ok c = search read-good
