-- What is put fits, and ends where the rest is cleared. Assumes nothing.
use Rattle.std.proofs.Common.{◌≡◌, ◌++◌, ◌-◌, length, rules}
use Rattle.lent.specs.Fill.{zeros}
use Rattle.bundle_run.specs.Run.{held_in}
use Rattle.bundle_run.proofs.Run.{run-filled}
use Rattle.bundle_run.proofs.fill_run.Goals as goal

pub returns : goal.returns
returns c =
    let a = c.args in
    let e : c.clear_rest.new.self.bytes.now ≡ held_in a.room a.count a.used a.blocks.now ++ zeros (length a.out.now - a.used) = search run-filled in
    search (rules, e)
