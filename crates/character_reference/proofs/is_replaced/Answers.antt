-- Range by range. Assumes nothing.
use Rattle.character_reference.proofs.Numbers.{ranges}
use Rattle.character_reference.proofs.is_replaced.Goals as goal

pub returns-in_default : goal.returns-in_default
returns-in_default c = search ranges

pub returns-in-0-to-1114111 : goal.returns-in-0-to-1114111
returns-in-0-to-1114111 c = search ranges

pub returns-in-0-to-1114111-2 : goal.returns-in-0-to-1114111-2
returns-in-0-to-1114111-2 c = search ranges

pub returns-in-0-to-1114111-3 : goal.returns-in-0-to-1114111-3
returns-in-0-to-1114111-3 c = search ranges

pub returns-in-0-to-1114111-4 : goal.returns-in-0-to-1114111-4
returns-in-0-to-1114111-4 c = search ranges

pub returns-in-0-to-8 : goal.returns-in-0-to-8
returns-in-0-to-8 c = search ranges

pub returns-in-0-to-8-2 : goal.returns-in-0-to-8-2
returns-in-0-to-8-2 c = search ranges

pub returns-in-0-to-8-3 : goal.returns-in-0-to-8-3
returns-in-0-to-8-3 c = search ranges

pub returns-in-0-to-8-4 : goal.returns-in-0-to-8-4
returns-in-0-to-8-4 c = search ranges

pub returns-in-0-to-8-5 : goal.returns-in-0-to-8-5
returns-in-0-to-8-5 c = search ranges
