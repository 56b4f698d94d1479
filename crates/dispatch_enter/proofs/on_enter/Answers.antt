-- Each group has its names. Assumes nothing.
use Prim.Native.Nat.{zero-le}
use native.Mathlib.Omega.{arith}
use Rattle.dispatch_enter.proofs.Laws.{by-event, by-options}
use Rattle.dispatch_enter.proofs.on_enter.Goals as goal

pub returns-then-e-lt-CODE_TEXT : goal.returns-then-e-lt-CODE_TEXT
returns-then-e-lt-CODE_TEXT c = let below = c.if-e-lt-CODE_TEXT.true in
    by-event c.enter_block.ensures zero-le (omega (arith, below))

pub returns-then-e-lt-GFM_TABLE : goal.returns-then-e-lt-GFM_TABLE
returns-then-e-lt-GFM_TABLE c = let from = c.if-e-lt-CODE_TEXT.false in
    let below = c.if-e-lt-GFM_TABLE.true in
    by-options c.enter_inline.ensures from (omega (arith, below))

pub returns : goal.returns
returns c = let from = c.if-e-lt-GFM_TABLE.false in
    let fits = c.well_formed in
    by-event c.enter_gfm.ensures from (omega (arith, fits))
