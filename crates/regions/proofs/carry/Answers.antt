-- Where the two lie apart, as many bytes as fit.
use Rattle.regions.proofs.Moves.{not-apart, too-full, too-high-up, apart-there, carried}
use Rattle.regions.proofs.carry.Goals as goal

pub returns-then-not-is_apart : goal.returns-then-not-is_apart
returns-then-not-is_apart c = search not-apart

pub returns-then-at-gt-SIZE : goal.returns-then-at-gt-SIZE
returns-then-at-gt-SIZE c = search too-full

pub returns-then-to-gt-KEPT_AT : goal.returns-then-to-gt-KEPT_AT
returns-then-to-gt-KEPT_AT c = search too-high-up

pub copy-requires : goal.copy-requires
copy-requires c = search apart-there

pub returns : goal.returns
returns c = search carried
