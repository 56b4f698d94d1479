-- An exit, by its name.
use Rattle.run_line_ending.proofs.Laws.{not-enter, by_name}
use Rattle.run_line_ending.proofs.ends_line.Goals as goal

pub returns-then-is_enter : goal.returns-then-is_enter
returns-then-is_enter c = search not-enter

pub returns : goal.returns
returns c = search by_name
