-- The sum of a part goes to that of the rows before it. Assumes nothing.
use Rattle.std.proofs.Common.{ap, ◌∙◌, arith, length, length-append}
use Rattle.std.specs.Slice.Iter.{chunks_rest}
use Rattle.bundle_block.specs.Block.{check_of}
use Rattle.bundle_block.proofs.Check.{part-fits, part-weighed, weigh-end, check-fits}
use Rattle.bundle_block.proofs.weigh_parts.Goals as goal

pub loop-part-init : goal.loop-part-init
unfolding check_of
loop-part-init c =
    rw (c.into_iter-part-iterator.ensures.into_iter_gives, c.chunks-part-items.ensures.rest)
    (record { size = c.chunks-part-items.ensures.size; place = omega arith; whole = c.requires.1; sums = omega arith })

pub overflow_add-sum : goal.overflow_add-sum
overflow_add-sum c = part-fits c.loop-part.place c.loop-part.sum _ _ _ _ c.in-Some.ensures.steps.1.0 c.loop-part.invariant.sums c.weigh_rows-sum.ensures (search check-fits)

pub loop-part-preserved : goal.loop-part-preserved
loop-part-preserved c =
    let step = c.in-Some.ensures.steps in
    let n = ap length step.1.0 ∙ length-append c.in-Some.part.now (chunks_rest c.next.new.self) in
    let i = c.loop-part.invariant in
    record {
      size = step.0 ∙ i.size;
      place = omega (arith, n, i.place);
      whole = omega (arith, n, i.whole, step.1.1, i.size);
      sums = part-weighed c.loop-part.place c.loop-part.sum _ _ _ _ step.1.0 i.sums c.weigh_rows-sum.ensures;
    }

pub returns : goal.returns
returns c = let z = c.in-None.ensures.steps.1.0 in weigh-end (chunks_rest c.loop-part.part-iterator) c.loop-part.place 0 c.loop-part.sum _ c.loop-part.invariant.sums (omega (arith, z))
