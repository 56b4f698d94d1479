-- One of two words. Assumes nothing.
use Rattle.sanitize_uri.proofs.Schemes.{two-words}
use Rattle.sanitize_uri.proofs.is_web_scheme.Goals as goal

pub returns : goal.returns
returns c = search two-words
