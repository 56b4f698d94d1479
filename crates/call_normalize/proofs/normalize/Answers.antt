-- Refused as the text is, or written, with the visits. Assumes nothing.
use Rattle.std.proofs.Common.{rules}
use Rattle.std.proofs.lemmas.Result.{err_from_is_err_and}
use Rattle.normalize_uri.specs.Url.{normalize_of}
use Rattle.call_text_answer.specs.Written.{Wrote}
use Rattle.call_normalize.proofs.Laws.{written, refused}
use Rattle.call_normalize.proofs.normalize.Goals as goal

pub returns-in_err-length : goal.returns-in_err-length
returns-in_err-length c =
    let w : Wrote c.args.url.now (normalize_of c.args.url.now) c.args.out.now c.write.new.out c.write.result = search rules in
    let p = err_from_is_err_and c.from_residual.result c.from_residual.ensures.1 in
    rw (p.1, p.2) (refused w _ c.in_err-length.was)

pub returns : goal.returns
returns c =
    let w : Wrote c.args.url.now (normalize_of c.args.url.now) c.args.out.now c.write.new.out c.write.result = search rules in
    written w _ _ c.in_ok-length.was c.count_visits-visits.ensures
