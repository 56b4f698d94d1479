-- Counted, the medium closed, and written. Assumes nothing.
use Rattle.on_footnote.proofs.Counted.{calls-unwritten, calls-written}
use Rattle.on_footnote.proofs.call_label.Goals as goal

pub returns-then-is_alt : goal.returns-then-is_alt
returns-then-is_alt c = calls-unwritten c.call_index-index.ensures c.count_call-r.ensures c.close_media-r.ensures c.is_alt.ensures c.if-is_alt.true

pub returns : goal.returns
returns c = calls-written c.call_index-index.ensures c.count_call-r.ensures c.close_media-r.ensures c.is_alt.ensures c.if-is_alt.false c.times_at-times.ensures c.apostrophes_in-apostrophes.ensures c.write_call-c.ensures
    c.write_call-c.auto.work
