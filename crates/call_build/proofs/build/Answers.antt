-- The run's answer, or the checker's refusal. Assumes nothing.
use Rattle.call_build_answer.proofs.Laws.{enough}
use Rattle.call_build.proofs.Laws.{refused, built}
use Rattle.call_build.proofs.build.Goals as goal

pub render-rendered-requires : goal.render-rendered-requires
render-rendered-requires c = search enough

pub returns-in_default : goal.returns-in_default
returns-in_default c = search built

pub returns : goal.returns
returns c = search refused
