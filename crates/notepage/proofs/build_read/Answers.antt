-- The lengths are inside. Assumes nothing.
use native.Mathlib.Omega.{arith}
use Rattle.notepage.proofs.build_read.Goals as goal

pub returns-then-text-n : goal.returns-then-text-n
returns-then-text-n c = λ h i. absurd (omega arith)

pub returns-then-events-m : goal.returns-then-events-m
returns-then-events-m c = λ h i. absurd (omega arith)
