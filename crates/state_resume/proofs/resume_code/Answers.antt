-- To the page, or behind the capture below.
use Rattle.state_resume.proofs.Trimmed.{code-disordered, code-outside, code-page, code-capture}
use Rattle.state_resume.proofs.resume_code.Goals as goal

pub returns-then-to-from : goal.returns-then-to-from
returns-then-to-from c = search code-disordered

pub returns-then-captures-to : goal.returns-then-captures-to
returns-then-captures-to c = search code-outside

pub returns-then-r-eq0 : goal.returns-then-r-eq0
returns-then-r-eq0 c = search code-page

pub returns : goal.returns
returns c = search code-capture
