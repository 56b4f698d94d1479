-- To the page, or behind the capture below.
use Rattle.state_resume.proofs.Written.{around-disordered, around-outside, around-page, around-capture}
use Rattle.state_resume.proofs.resume.Goals as goal

pub returns-then-to-from : goal.returns-then-to-from
returns-then-to-from c = search around-disordered

pub returns-then-captures-to : goal.returns-then-captures-to
returns-then-captures-to c = search around-outside

pub returns-then-r-eq0 : goal.returns-then-r-eq0
returns-then-r-eq0 c = search around-page

pub returns : goal.returns
returns c = search around-capture
