-- The first refusal, sentence by sentence. Assumes nothing.
use Rattle.bundle_block.proofs.Block.{handed-on}
use Rattle.bundle_read.proofs.Bundle.{length-first, header-next, count_next, runs_last, whole-blocks, counted-blocks}
use Rattle.bundle_read.proofs.judge_bundle.Goals as goal

pub returns-in_err-judge_length : goal.returns-in_err-judge_length
returns-in_err-judge_length c = handed-on _ c.from_residual.ensures _ (length-first _ c.judge_length.ensures (c.in_err-judge_length.was {u = tt}))

pub judge_header-requires : goal.judge_header-requires
judge_header-requires c = whole-blocks _ c.judge_length.ensures (c.in_ok-judge_length.was {u = tt})

pub returns-in_err-judge_header : goal.returns-in_err-judge_header
returns-in_err-judge_header c = handed-on _ c.from_residual-in_err-judge_header.ensures _ (search (header-next, c.in_ok-judge_length.was, c.in_err-judge_header.was))

pub judge_count-requires : goal.judge_count-requires
judge_count-requires c = search (whole-blocks, c.in_ok-judge_length.was)

pub returns-in_err-judge_count : goal.returns-in_err-judge_count
returns-in_err-judge_count c = handed-on _ c.from_residual-in_err-judge_count.ensures _ (search (count_next, c.in_ok-judge_length.was, c.in_ok-judge_header.was, c.in_err-judge_count.was))

pub judge_runs-requires : goal.judge_runs-requires
judge_runs-requires c = search (counted-blocks, c.in_ok-judge_count.was)

pub returns : goal.returns
returns c = search (runs_last, c.in_ok-judge_length.was, c.in_ok-judge_header.was, c.in_ok-judge_count.was)
