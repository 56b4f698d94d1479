-- By the digit.
use Rattle.state_context.proofs.Fences.{first_more, second_more, third-more}
use Rattle.state_context.proofs.count_fence.Goals as goal

pub returns-then-d-eq1 : goal.returns-then-d-eq1
returns-then-d-eq1 c = search first_more

pub returns-then-d-eq2 : goal.returns-then-d-eq2
returns-then-d-eq2 c = search second_more

pub returns : goal.returns
returns c = search third-more
