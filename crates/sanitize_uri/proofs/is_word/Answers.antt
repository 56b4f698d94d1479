-- As the library tells letters apart. Assumes nothing.
use Rattle.sanitize_uri.proofs.Schemes.{is-word}
use Rattle.sanitize_uri.proofs.is_word.Goals as goal

pub returns : goal.returns
returns c = search is-word
