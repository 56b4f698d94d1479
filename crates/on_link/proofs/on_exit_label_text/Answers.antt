-- By the slice.
use Rattle.machine.specs.OnLink.{on_exit_label_text}
use Rattle.on_link.proofs.Lifted.{identified}
use Rattle.on_link.proofs.on_exit_label_text.Goals as goal

pub returns : goal.returns
unfolding on_exit_label_text
returns c = identified c.identify_label-r.ensures
