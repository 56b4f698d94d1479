-- What `eq` says of the bytes that it met. Assumes nothing.
use Rattle.normalize_identifier.proofs.Compare.{compared}
use Rattle.normalize_identifier.proofs.same_identity.Goals as goal

pub returns : goal.returns
returns c =
    let e = c.eq.ensures.ran in
    rw (← c.new.ensures, ← c.new-2.ensures, ← e.7) (compared c.new.result e.0 e.5 e.6 e.1 e.2 e.3 e.4 c.eq.result e.8 e.9 e.10 e.11)
