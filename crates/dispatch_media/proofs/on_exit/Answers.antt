-- Each group has its names. Assumes nothing.
use native.Mathlib.Omega.{arith}
use Rattle.dispatch_media.proofs.Exits.{from-setext, from-media, from-footnote}
use Rattle.dispatch_media.proofs.on_exit.Goals as goal

pub returns-then-e-lt-LINK : goal.returns-then-e-lt-LINK
returns-then-e-lt-LINK c = let below = c.if-e-lt-LINK.true in
    from-setext (omega (arith, below)) c.exit_setext.ensures

pub returns-then-e-lt-GFM_TABLE : goal.returns-then-e-lt-GFM_TABLE
returns-then-e-lt-GFM_TABLE c = let below = c.if-e-lt-GFM_TABLE.true in
    let from = c.if-e-lt-LINK.false in
    from-media from (omega (arith, below)) c.exit_media.ensures

pub returns : goal.returns
returns c = let from = c.if-e-lt-GFM_TABLE.false in
    from-footnote from c.exit_footnote.ensures
