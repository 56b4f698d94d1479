-- What the library reads is the word. Assumes nothing.
use Rattle.url_run.proofs.Laws.{word-of}
use Rattle.url_run.proofs.word.Goals as goal

pub returns : goal.returns
returns c = search word-of
