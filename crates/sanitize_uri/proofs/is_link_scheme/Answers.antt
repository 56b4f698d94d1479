-- One of six words. Assumes nothing.
use Rattle.sanitize_uri.proofs.Schemes.{six-words}
use Rattle.sanitize_uri.proofs.is_link_scheme.Goals as goal

pub returns : goal.returns
returns c = search six-words
