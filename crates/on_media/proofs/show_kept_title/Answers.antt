-- By the word.
use borrow.Author.Rules.{rules}
use Rattle.on_media.proofs.Titles.{kept-unset, kept-shown}
use Rattle.on_media.proofs.show_kept_title.Goals as goal

pub returns-then-word-eq0 : goal.returns-then-word-eq0
returns-then-word-eq0 c = kept-unset c.definition_title-word.ensures (search rules)

pub returns : goal.returns
returns c = kept-shown c.definition_title-word.ensures (search rules) c.definition_place-place.ensures c.definition_length-n.ensures c.at_most-from.ensures c.at_most-skipped.ensures c.write_title.ensures
