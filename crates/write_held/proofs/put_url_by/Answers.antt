-- From the copy. Assumes nothing.
use Rattle.write_held.proofs.Copied.{url-by}
use Rattle.write_held.proofs.put_url_by.Goals as goal

pub returns : goal.returns
returns c = search url-by
