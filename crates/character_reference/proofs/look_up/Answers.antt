-- The middle is in the table; there the name is found, or one side is left. Assumes nothing.
use Rattle.character_reference.proofs.Search.{whole, there, in_table, found, lower, higher, gone}
use Rattle.character_reference.proofs.look_up.Goals as goal

pub loop-low-init : goal.loop-low-init
loop-low-init c = search whole

pub order_at-requires : goal.order_at-requires
order_at-requires c = search there

pub bounds-codes-k : goal.bounds-codes-k
bounds-codes-k c = search in_table

pub returns-in-Equal : goal.returns-in-Equal
returns-in-Equal c = rw c.from.ensures (search found)

pub loop-low-preserved-in-Less : goal.loop-low-preserved-in-Less
loop-low-preserved-in-Less c = search lower

pub loop-low-preserved : goal.loop-low-preserved
loop-low-preserved c = search higher

pub returns : goal.returns
returns c = search gone
