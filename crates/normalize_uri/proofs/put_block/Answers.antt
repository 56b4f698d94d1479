-- The two halves of sixteen marks. Assumes nothing.
use Rattle.normalize_uri.proofs.Runs.{block-low, block-high}
use Rattle.std.proofs.Common.{rules}
use Rattle.normalize_uri.proofs.put_block.Goals as goal

pub put_halves-requires : goal.put_halves-requires
put_halves-requires c = (search rules, search block-low, search block-high)
