-- A row is passed over, compared, or found. Assumes nothing.
use Rattle.std.proofs.Common.{◌≡◌, refl, false}
use Rattle.lent.specs.Bytes.{same}
use Rattle.normalize_identifier.specs.Identity.{identity_of}
use Rattle.signature.proofs.Search.{seek-start, none_left, seek-skip, seek-more, seek_found, same-more, same-differ, same-longer, same-shorter, same-both}
use Rattle.signature.proofs.find.Goals as goal
use Rattle.signature.proofs.find.Goals.{in-Some-Some+then-x-y, in_default, in_default-2}

pub search-init : goal.search-init
search-init c = search seek-start

pub search-preserved-then-row_differs : goal.search-preserved-then-row_differs
search-preserved-then-row_differs c = seek-skip c.search.invariant c.min.ensures c.min-rows.ensures c.if-rows-k.false c.row_differs.ensures c.if-row_differs.true c.sign-s.ensures

pub same-init : goal.same-init
same-init c = refl

pub same-preserved : goal.same-preserved
same-preserved c = same-more c.same.invariant c.in-Some-Some.ensures.steps c.in-Some-Some.ensures'.steps c.if-x-y.false

pub search-preserved : goal.search-preserved
search-preserved c =
    let w : false ≡ same (identity_of c.part-entry.result.now) (identity_of c.args.label.now) =
    rw (← c.new-ours.ensures, ← c.new-theirs.ensures) (elim c.match-next.branch [
      | in-Some-Some+then-x-y w ↦ same-differ c.same.invariant w.in-Some-Some.ensures.steps w.in-Some-Some.ensures'.steps w.if-x-y.true
      | in_default w ↦ same-longer c.same.invariant w.in_default.ensures.steps w.in_default.ensures'.steps.0
      | in_default-2 w ↦ let e = rw w.in_default.is-0 at c.next.ensures.steps in same-shorter c.same.invariant e.0 w.in_default.ensures.steps
    ]) in
    seek-more c.search.invariant c.min.ensures c.min-rows.ensures c.if-rows-k.false c.part-entry.ensures w

pub returns-then-rows-k : goal.returns-then-rows-k
returns-then-rows-k c = none_left c.search.invariant c.min.ensures c.min-rows.ensures c.if-rows-k.true

pub returns-in-None-None : goal.returns-in-None-None
returns-in-None-None c =
    let e = rw c.in-None-None.is-0 at c.next.ensures.steps in
    seek_found c.search.invariant c.min.ensures c.min-rows.ensures c.if-rows-k.false c.part-entry.ensures (rw (← c.new-ours.ensures, ← c.new-theirs.ensures) (same-both c.same.invariant e.0 c.in-None-None.ensures.steps.0))
