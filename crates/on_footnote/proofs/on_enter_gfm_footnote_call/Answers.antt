-- A medium is opened. Assumes nothing.
use Rattle.machine.specs.OnFootnote.{on_enter_gfm_footnote_call}
use Rattle.state_whole.proofs.Media.{opens-media}
use Rattle.on_footnote.proofs.on_enter_gfm_footnote_call.Goals as goal

pub returns : goal.returns
unfolding on_enter_gfm_footnote_call
returns c = opens-media c.open_media-r.ensures
