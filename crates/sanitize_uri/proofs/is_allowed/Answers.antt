-- By the colon, if there is one. Assumes nothing.
use Rattle.sanitize_uri.proofs.Schemes.{colon-inside, allowed_at_lem, allowed-missing}
use Rattle.sanitize_uri.proofs.is_allowed.Goals as goal

pub slice_bounds-is_listed-end : goal.slice_bounds-is_listed-end
slice_bounds-is_listed-end c = search colon-inside

pub returns-in-Some : goal.returns-in-Some
returns-in-Some c = search allowed_at_lem

pub returns-in-None : goal.returns-in-None
returns-in-None c = search allowed-missing
