-- The loop's invariant: the verdict from `index` on is that on the whole run. Assumes nothing.
use Rattle.std.proofs.Common.{◌≡◌, ◌-◌, ◌*◌, drop}
use Rattle.bundle_run.specs.Run.{judge_run}
use Rattle.bundle_run.proofs.judge_run.Given as goal

abbrev pub invariant-loop-index : goal.invariant-loop-index
invariant-loop-index l = judge_run l.edition l.kind l.room l.index (l.end - l.index) l.left (drop (512 * (l.index - l.start)) l.blocks) ≡ judge_run l.edition l.kind l.room l.start (l.end - l.start) l.used l.blocks
