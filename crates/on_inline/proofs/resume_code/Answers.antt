-- The buffers alone change.
use Rattle.on_inline.proofs.CodeText.{resumes-code}
use Rattle.on_inline.proofs.resume_code.Goals as goal

pub returns : goal.returns
returns c = search resumes-code
