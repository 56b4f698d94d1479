-- Behind whole rows a byte more, and the last. Assumes nothing.
use Rattle.bundle_block.proofs.Check.{rows-weighed, weigh-one, weighed-fits, weigh-end, check-fits}
use Rattle.bundle_block.proofs.check_of.Goals as goal

pub loop-place-init : goal.loop-place-init
loop-place-init c = search rows-weighed

pub overflow_add-sum-in-loop-place : goal.overflow_add-sum-in-loop-place
overflow_add-sum-in-loop-place c = search (weighed-fits, check-fits)

pub loop-place-preserved : goal.loop-place-preserved
loop-place-preserved c = search weigh-one

pub returns : goal.returns
returns c = search weigh-end
