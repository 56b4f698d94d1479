-- Refused, or written. Assumes nothing.
use Rattle.call_links_answer.proofs.Good.{refused}
use Rattle.call_links.proofs.sanitize_links.Goals as goal

pub returns-in-Err : goal.returns-in-Err
returns-in-Err c = search refused
