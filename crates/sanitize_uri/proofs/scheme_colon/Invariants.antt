-- The colon is looked for from the index on.
use Rattle.std.proofs.Common.{◌≡◌, drop}
use Rattle.sanitize_uri.specs.Protocols.{colon_from, colon_of}
use Rattle.sanitize_uri.proofs.scheme_colon.Given as goal

abbrev pub invariant-loop-i : goal.invariant-loop-i
invariant-loop-i l = colon_from l.i (drop l.i l.value) ≡ colon_of l.value
