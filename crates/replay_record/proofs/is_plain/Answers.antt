-- By the bytes of the fields. Assumes nothing.
use Rattle.replay_record.proofs.Fields.{plain-found}
use Rattle.replay_record.proofs.is_plain.Goals as goal

pub returns : goal.returns
returns c = search plain-found
