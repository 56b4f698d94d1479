-- Each byte is a digit, so all are. Assumes nothing.
use Rattle.std.proofs.Common.{rules, ◌↔◌, ◌≡◌, true, IsTrue, EachIndex, slice_index}
use Rattle.lent.specs.Bytes.{is_digit}
use Rattle.check_slices.proofs.Rules.{all_digits}
use Rattle.check_slices.proofs.are_digits.Goals as goal

pub returns : goal.returns
returns c =
    let e : IsTrue c.all.result ↔ EachIndex c.args.s.now (λ k. is_digit (slice_index c.args.s.now k) ≡ true) = search rules in
    all_digits c.args.s.now c.all.result e
