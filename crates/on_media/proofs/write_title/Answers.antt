-- Three texts written are one.
use native.Mathlib.Omega.{arith}
use Rattle.on_media.proofs.Writes.{writes-piece, shows-title}
use Rattle.on_media.proofs.write_title.Goals as goal

pub returns : goal.returns
returns c = let n1 = c.push_text-named.auto in
    let n2 = c.push_piece-shown.auto in
    writes-piece (shows-title c.push_text-named.ensures c.push_piece-shown.ensures c.push_text-c.ensures (omega (arith, n1)) (omega (arith, n2))) (omega (arith, n1, n2, c.push_text-c.auto))
