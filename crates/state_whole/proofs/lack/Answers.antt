-- In the order of the numbers.
use Rattle.state_whole.proofs.Lacking.{captures-lack, held-lacks, kept-lacks, page-lacks, none-lacks}
use Rattle.state_whole.proofs.lack.Goals as goal

pub returns-then-captures-gt-SIZE : goal.returns-then-captures-gt-SIZE
returns-then-captures-gt-SIZE c = search captures-lack

pub returns-then-held-gt-SIZE : goal.returns-then-held-gt-SIZE
returns-then-held-gt-SIZE c = search held-lacks

pub returns-then-kept-gt-SIZE : goal.returns-then-kept-gt-SIZE
returns-then-kept-gt-SIZE c = search kept-lacks

pub returns-then-room-captures : goal.returns-then-room-captures
returns-then-room-captures c = search page-lacks

pub returns : goal.returns
returns c = search none-lacks
