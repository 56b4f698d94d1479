-- By the test. Assumes nothing.
use Rattle.replay_record.proofs.Fields.{ends, ends-not}
use Rattle.replay_record.proofs.end.Goals as goal

pub returns-then-note-edition : goal.returns-then-note-edition
returns-then-note-edition c = search ends

pub returns : goal.returns
returns c = search ends-not
