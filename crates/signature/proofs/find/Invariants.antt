-- The search's invariant: what is found from row `k` on is found. The comparison's: the identities are the same exactly when what is left of them is. Assumes nothing.
use Rattle.std.proofs.Common.{◌≡◌, ◌-◌}
use Rattle.lent.specs.Bytes.{same}
use Rattle.normalize_identifier.specs.Left.{left}
use Rattle.signature.proofs.Search.{Seeking}
use Rattle.signature.proofs.find.Given as goal

abbrev pub invariant-same : goal.invariant-same
invariant-same l = same (left l.ours) (left l.theirs) ≡ same (left l.initial.ours) (left l.initial.theirs)

abbrev pub invariant-search : goal.invariant-search
invariant-search l = Seeking l.text l.columns.starts.now l.columns.ends.now l.columns.firsts.now l.columns.seconds.now l.n l.label l.k

abbrev pub decreases-search : goal.decreases-search
decreases-search l = l.rows - l.k
