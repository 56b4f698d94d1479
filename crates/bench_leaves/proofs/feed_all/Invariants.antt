-- The loop's invariant: the bytes before `at` have been fed. Assumes nothing.
use mathlib.Core.Path.{◌≡◌}
use Prim.Native.Nat.{◌-◌, ◌≤◌}
use lib.ListN.{length}
use Rattle.bench_leaves.specs.Cut.{Cut}
use Rattle.bench_leaves.proofs.feed_all.Given as goal

abbrev pub invariant-loop-at : goal.invariant-loop-at
invariant-loop-at l = Cut l.bundle l.at l.initial.text l.initial.events l.text l.events l.reader × (l.at ≤ length l.bundle) × (length l.text ≡ length l.initial.text) × (length l.events ≡ length l.initial.events)

abbrev pub decreases-loop-at : goal.decreases-loop-at
decreases-loop-at l = length l.bundle - l.at
