-- A label is opened. Assumes nothing.
use Rattle.machine.specs.OnFootnote.{on_exit_gfm_footnote_definition_label_string}
use Rattle.on_footnote.proofs.Labels.{opens-label}
use Rattle.on_footnote.proofs.on_exit_gfm_footnote_definition_label_string.Goals as goal

pub returns : goal.returns
unfolding on_exit_gfm_footnote_definition_label_string
returns c = search opens-label
