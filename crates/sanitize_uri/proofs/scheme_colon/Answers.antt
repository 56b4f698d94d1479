-- A colon, one of the three that bar it, or any other byte. Assumes nothing.
use Rattle.std.proofs.Common.{refl}
use Rattle.sanitize_uri.specs.Protocols.{colon_of}
use Rattle.sanitize_uri.proofs.Schemes.{colon-found, colon-barred, colon-next, colon-missing}
use Rattle.sanitize_uri.proofs.scheme_colon.Goals as goal

pub loop-i-init : goal.loop-i-init
unfolding colon_of
loop-i-init c = refl

pub returns-in-58 : goal.returns-in-58
returns-in-58 c = search colon-found

pub returns-in-35 : goal.returns-in-35
returns-in-35 c = search colon-barred

pub loop-i-preserved : goal.loop-i-preserved
loop-i-preserved c = search colon-next

pub returns : goal.returns
returns c = search colon-missing
