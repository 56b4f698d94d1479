-- The one call's. Assumes nothing.
use Rattle.machine.specs.OnFootnote.{on_enter_gfm_footnote_definition}
use Rattle.on_footnote.proofs.on_enter_gfm_footnote_definition.Goals as goal

pub returns : goal.returns
unfolding on_enter_gfm_footnote_definition
returns c = c.open_container.ensures
