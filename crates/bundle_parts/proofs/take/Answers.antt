-- By what is taken. Assumes nothing.
use Rattle.bundle_parts.proofs.Taking.{part-within, part_left, part-stops, part-kept}
use Rattle.bundle_parts.proofs.take.Goals as goal

pub slice_bounds-keep-count : goal.slice_bounds-keep-count
slice_bounds-keep-count c = search part-within

pub slice_bounds-keep-start : goal.slice_bounds-keep-start
slice_bounds-keep-start c = search part-within

pub keep-requires : goal.keep-requires
keep-requires c = search part_left

pub returns-in-Err : goal.returns-in-Err
returns-in-Err c = search part-stops

pub returns-in-Ok : goal.returns-in-Ok
returns-in-Ok c = search part-kept
