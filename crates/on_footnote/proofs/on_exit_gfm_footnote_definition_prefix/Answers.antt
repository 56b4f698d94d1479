-- The capture is taken off before the next is opened. Assumes nothing.
use Rattle.machine.specs.OnFootnote.{on_exit_gfm_footnote_definition_prefix}
use Rattle.state_context.proofs.Renewed.{renewed}
use Rattle.on_footnote.proofs.on_exit_gfm_footnote_definition_prefix.Goals as goal

pub returns : goal.returns
unfolding on_exit_gfm_footnote_definition_prefix
returns c = renewed c.drop-r.ensures c.«open».ensures
