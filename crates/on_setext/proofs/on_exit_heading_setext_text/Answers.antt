-- What was captured is held.
use mathlib.Core.Path.{refl}
use native.Mathlib.Omega.{arith}
use Rattle.machine.specs.OnSetext.{on_exit_heading_setext_text}
use Rattle.state_whole.proofs.Shown.{holds}
use Rattle.on_link.proofs.Lifted.{lifts-sets}
use Rattle.on_link.proofs.Chains.{then-on-work}
use Rattle.on_setext.proofs.on_exit_heading_setext_text.Goals as goal

pub returns : goal.returns
unfolding on_exit_heading_setext_text
returns c = let k = rw c.captured_length-n.ensures at c.hold-r.ensures in
    then-on-work (holds k c.drop-c.ensures (omega (arith, c.hold-r.auto))) (lifts-sets refl c.set_slurp-r.ensures)
