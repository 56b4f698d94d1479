-- The loop's invariant: what is reached before each event, or that there is no room. Assumes nothing.
use mathlib.Core.Path.{◌≡◌}
use Prim.Native.Nat.{◌/◌, ◌-◌}
use lib.ListN.{length}
use Rattle.regions.specs.Sizes.{work_size}
use Rattle.state_kept.specs.Kept.{tables}
use Rattle.dispatch_turns.specs.Loud.{world}
use Rattle.run_pass.specs.Private.{Stays}
use Rattle.run_pass.proofs.pass.Given as goal

abbrev pub invariant-loop-lack : goal.invariant-loop-lack
invariant-loop-lack l = (l.n ≡ length l.events / 20) × (length l.work ≡ work_size) × (length l.work ≡ length l.initial.work) × (length l.starts ≡ length l.initial.starts) × (length l.out ≡ length l.initial.out) × (length l.definitions ≡ length l.initial.definitions) × (length l.footnotes ≡ length l.initial.footnotes) × (length l.calls ≡ length l.initial.calls) × (length l.labels ≡ length l.initial.labels)
    × Stays l.first l.text l.events l.options l.initial.r (world l.initial.work l.initial.out l.initial.starts (tables l.initial.definitions l.initial.footnotes l.initial.calls l.initial.labels)) l.p.inside l.p.at l.lack l.r (world l.work l.out l.starts (tables l.definitions l.footnotes l.calls l.labels))

abbrev pub decreases-loop-lack : goal.decreases-loop-lack
decreases-loop-lack l = l.n - l.p.at
