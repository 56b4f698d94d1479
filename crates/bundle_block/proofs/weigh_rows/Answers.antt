-- A row more is counted, and all of them in the end. Assumes nothing.
use Rattle.std.proofs.Common.{sym, ◌∙◌, arith, rules, length, take_all}
use Rattle.bundle_block.proofs.Words.{weighed-small}
use Rattle.bundle_block.proofs.Counted.{counted_none, front-is, row-came, counted-all, once-small, by-row-small, product-fits, all-fits}
use Rattle.bundle_block.proofs.weigh_rows.Goals as goal

pub loop-row-init : goal.loop-row-init
loop-row-init c =
    let rows = c.args.rows.now in
    rw (c.into_iter-row-iterator.ensures.into_iter_gives, c.rchunks-row-items.ensures.rest)
    (record { size = c.rchunks-row-items.ensures.size; front = sym (take_all (length rows) rows (omega arith)); counted = counted_none rows c.args.place c.requires.0 })

pub loop-row-preserved : goal.loop-row-preserved
loop-row-preserved c =
    let step = c.in-Some.ensures.steps in
    let i = c.loop-row.invariant in
    let m = rw i.size at step.1.1 in
    record {
      size = step.0 ∙ i.size;
      front = front-is c.args.rows.now c.args.place c.loop-row.once c.loop-row.by_row _ _ _ i.counted i.front step.1.0 m step.1.2;
      counted = row-came c.args.rows.now c.args.place c.loop-row.once c.loop-row.by_row _ _ _ i.counted i.front step.1.0 m step.1.2 c.requires.1 c.type_inv.rows c.add_lanes.ensures c.add_row.ensures;
    }

pub weigh_lanes-requires : goal.weigh_lanes-requires
weigh_lanes-requires c = search (once-small, weighed-small, rules, c.in-None.ensures.steps.1.0)

pub sum_lanes-requires : goal.sum_lanes-requires
sum_lanes-requires c = search (by-row-small, weighed-small, rules, c.in-None.ensures.steps.1.0)

pub overflow_mul-result : goal.overflow_mul-result
overflow_mul-result c = search (product-fits, weighed-small, c.in-None.ensures.steps.1.0)

pub overflow_add-result : goal.overflow_add-result
overflow_add-result c = search (all-fits, weighed-small, c.in-None.ensures.steps.1.0)

pub returns : goal.returns
returns c = search (counted-all, c.in-None.ensures.steps.1.0)
