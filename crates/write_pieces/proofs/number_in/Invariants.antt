-- The digits left, behind those that say `n`, make the whole answer. Assumes nothing.
use Rattle.std.proofs.Common.{◌≡◌, ◌<◌, ◌^◌, drop}
use Rattle.write_pieces.specs.Written.{number_in}
use Rattle.write_pieces.proofs.Values.{number_left}
use Rattle.write_pieces.proofs.number_in.Given as goal

abbrev pub invariant-loop-b : goal.invariant-loop-b
invariant-loop-b l = (number_left l.n (drop l.b-index l.s) ≡ number_in l.s) × (l.n < 10 ^ l.b-index)
