-- The digits left, behind those that say `n`, make the whole answer. Assumes nothing.
use Rattle.std.proofs.Common.{◌≡◌, ◌<◌, ◌^◌, drop}
use Rattle.character_reference.specs.Reference.{numeral_of}
use Rattle.character_reference.proofs.Numbers.{numeral_from}
use Rattle.character_reference.proofs.numeral_of.Given as goal

abbrev pub invariant-loop-b : goal.invariant-loop-b
invariant-loop-b l = (numeral_from l.base l.n (drop l.b-index l.s) ≡ numeral_of l.base l.most l.s) × (l.n < 16 ^ l.b-index)
