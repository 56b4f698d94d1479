-- Three digits put into the word of a start.
use Rattle.state_context.proofs.Constants.{starts}
use Rattle.state_context.proofs.first_word.Goals as goal

pub returns : goal.returns
returns c = search starts
