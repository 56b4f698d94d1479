-- A part more, and the rest behind the parts. Assumes nothing.
use Rattle.std.proofs.Common.{◌≡◌, ◌/◌, length, arith, rules}
use Rattle.wipe.proofs.Laws.{wiped-more, wiped-end}
use Rattle.wipe.proofs.wipe.Goals as goal

pub loop-k-preserved : goal.loop-k-preserved
loop-k-preserved c = let at = c.loop-k in (wiped-more at.out _ _ at.k 16384 (omega arith) at.invariant.0 c.wipe_part.ensures, search rules)

pub returns : goal.returns
returns c =
    let at = c.loop-k in
    let e : at.k ≡ length c.args.out.now / 16384 = omega arith in
    wiped-end c.args.out.now at.out _ _ (omega arith) at.auto.out (rw e at at.invariant.0) c.clear.ensures
