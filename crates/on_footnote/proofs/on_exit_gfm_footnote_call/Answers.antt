-- By what is known of the newest medium. Assumes nothing.
use Rattle.machine.specs.OnFootnote.{on_exit_gfm_footnote_call}
use Rattle.on_footnote.proofs.Counted.{no_label, by-label}
use Rattle.on_footnote.proofs.on_exit_gfm_footnote_call.Goals as goal

pub returns-in-None : goal.returns-in-None
unfolding on_exit_gfm_footnote_call
returns-in-None c = search no_label

pub returns-in-Some : goal.returns-in-Some
unfolding on_exit_gfm_footnote_call
returns-in-Some c = search by-label
