-- By the test. Assumes nothing.
use Rattle.replay_record.proofs.Fields.{record-acted, record-faulty}
use Rattle.replay_record.proofs.read.Goals as goal

pub returns-then-is_plain : goal.returns-then-is_plain
returns-then-is_plain c = search record-acted

pub returns : goal.returns
returns c = search record-faulty
