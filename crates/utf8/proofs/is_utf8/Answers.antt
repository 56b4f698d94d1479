-- A byte goes on a character, ends one, or can't stand; and the text ends. Assumes nothing.
use Rattle.utf8.proofs.Walk.{begun, on, wrong, skipped, ended}
use Rattle.utf8.proofs.is_utf8.Goals as goal

pub loop-i-init : goal.loop-i-init
loop-i-init c = search begun

pub loop-i-preserved-in-First : goal.loop-i-preserved-in-First
loop-i-preserved-in-First c = search skipped

pub loop-i-preserved : goal.loop-i-preserved
loop-i-preserved c = search on

pub returns-in-Wrong : goal.returns-in-Wrong
returns-in-Wrong c = search wrong

pub returns : goal.returns
returns c = search ended
