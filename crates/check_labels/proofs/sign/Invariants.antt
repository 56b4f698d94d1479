-- The loop's invariant: the labels before `i` are signed. Assumes nothing.
use Rattle.std.proofs.Common.{◌≡◌, length}
use Rattle.check_labels.specs.Signature.{Signing}
use Rattle.check_labels.proofs.sign.Given as goal

abbrev pub invariant-loop-i : goal.invariant-loop-i
invariant-loop-i l = (Signing l.text l.events 54 l.i l.k l.definitions) × (Signing l.text l.events 65 l.i l.l l.footnotes) × (length l.definitions ≡ length l.initial.definitions) × (length l.footnotes ≡ length l.initial.footnotes)
