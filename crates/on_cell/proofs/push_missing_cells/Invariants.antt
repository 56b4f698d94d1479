-- What the row lacks is left to be added, and no buffer's length changes.
use Rattle.std.proofs.Common.{◌≡◌, ◌-◌, length}
use Rattle.on_cell.proofs.Cells.{Left}
use Rattle.on_cell.proofs.push_missing_cells.Given as goal

abbrev pub invariant-loop : goal.invariant-loop
invariant-loop l = Left l.initial.r l.initial.captures l.initial.out l.r l.captures l.out (l.missing - l.counter) × (length l.captures ≡ length l.initial.captures) × (length l.out ≡ length l.initial.out)
