-- Behind the last block, or a rest. Assumes nothing.
use Rattle.bundle_parts.proofs.Taking.{keep-none, keep_left}
use Rattle.bundle_parts.proofs.keep.Goals as goal

pub returns-then-is_whole : goal.returns-then-is_whole
returns-then-is_whole c = search keep-none

pub returns : goal.returns
returns c = search keep_left
