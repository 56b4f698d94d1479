-- Where the label, the captures and the number are there. Assumes nothing.
use Rattle.on_footnote.proofs.Written.{nowhere, short, full, written}
use Rattle.on_footnote.proofs.write_call.Goals as goal

pub returns-in_default : goal.returns-in_default
returns-in_default c = nowhere c.in_default.ensures.lookup.0

pub returns-then-work-lt-SIZE : goal.returns-then-work-lt-SIZE
returns-then-work-lt-SIZE c = short c.if-work-lt-SIZE.true

pub returns-then-index-ge64 : goal.returns-then-index-ge64
returns-then-index-ge64 c = full c.if-index-ge64.true

pub returns : goal.returns
returns c = written c.in-Some.ensures.lookup.0.2 c.push_call.auto.captures c.push_call.ensures
