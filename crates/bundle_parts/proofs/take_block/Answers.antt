-- A block, and what follows. Assumes nothing.
use Rattle.bundle_parts.proofs.Taking.{block-stops, block_goes}
use Rattle.bundle_parts.proofs.take_block.Goals as goal

pub returns-in-Err : goal.returns-in-Err
returns-in-Err c = search block-stops

pub returns-in-Ok : goal.returns-in-Ok
returns-in-Ok c = let at = c.args in
    block_goes at.over at.known at.text.now at.events.now at.rest.now at.part.now _ _ _ c.advance.ensures c.take.result c.take.new.rest c.requires.0 c.requires.1 c.in-Ok.is c.take.ensures
