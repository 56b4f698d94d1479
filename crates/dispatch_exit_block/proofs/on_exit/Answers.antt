-- Each group has its names. Assumes nothing.
use native.Mathlib.Omega.{arith}
use Rattle.dispatch_exit_block.proofs.Laws.{from-blocks, from-links, by-event, by_place, by_name}
use Rattle.dispatch_exit_block.proofs.on_exit.Goals as goal

pub returns-then-e-lt-LIST_ITEM : goal.returns-then-e-lt-LIST_ITEM
returns-then-e-lt-LIST_ITEM c = let below = c.if-e-lt-LIST_ITEM.true in
    by-event (λ p. from-blocks _ p) (omega (arith, below)) c.exit_block.ensures

pub returns-then-e-lt-CODE_TEXT : goal.returns-then-e-lt-CODE_TEXT
returns-then-e-lt-CODE_TEXT c = let from = c.if-e-lt-LIST_ITEM.false in
    let below = c.if-e-lt-CODE_TEXT.true in
    by_place (λ p. from) (omega (arith, below)) c.exit_content.ensures

pub returns : goal.returns
returns c = let from = c.if-e-lt-CODE_TEXT.false in
    let fits = c.well_formed in
    by_name (λ p. from-links _ from p) (omega (arith, fits)) c.exit_table.ensures
