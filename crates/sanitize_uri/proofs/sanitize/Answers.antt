-- The walk with encoding on.
use Rattle.lent.proofs.Writing.{by}
use Rattle.sanitize_uri.proofs.Schemes.{sanitized}
use Rattle.sanitize_uri.proofs.sanitize.Goals as goal

pub returns : goal.returns
returns c = search (by, sanitized)
