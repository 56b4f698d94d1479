-- The body is kept, the container goes. Assumes nothing.
use Rattle.machine.specs.OnFootnote.{on_exit_gfm_footnote_definition}
use Rattle.on_footnote.proofs.Bodies.{closes-container-body}
use Rattle.on_footnote.proofs.on_exit_gfm_footnote_definition.Goals as goal

pub returns : goal.returns
unfolding on_exit_gfm_footnote_definition
returns c = closes-container-body c.keep_body-k.ensures c.close_container-r.ensures
