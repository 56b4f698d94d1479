-- By how the body ends. Assumes nothing.
use Rattle.write_section.proofs.Pages.{paragraph-long, cut_inside, body-split, body-behind}
use Rattle.write_section.proofs.put_body.Goals as goal

pub overflow_sub-end : goal.overflow_sub-end
overflow_sub-end c = search paragraph-long

pub put_split-requires : goal.put_split-requires
put_split-requires c = search cut_inside

pub returns-then-ends_paragraph : goal.returns-then-ends_paragraph
returns-then-ends_paragraph c = search body-split

pub returns : goal.returns
returns c = search body-behind
