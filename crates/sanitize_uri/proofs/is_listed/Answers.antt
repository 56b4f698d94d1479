-- By the list that is asked for. Assumes nothing.
use Rattle.sanitize_uri.proofs.Schemes.{listed_by}
use Rattle.sanitize_uri.proofs.is_listed.Goals as goal

pub returns-in-Link : goal.returns-in-Link
returns-in-Link c = search listed_by

pub returns-in-Image : goal.returns-in-Image
returns-in-Image c = search listed_by
