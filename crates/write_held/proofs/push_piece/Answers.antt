-- A part of the work bytes is a piece of a region.
use borrow.Author.Rules.{rules}
use Rattle.write_held.proofs.Showing.{shows-far, shows-piece}
use Rattle.write_held.proofs.push_piece.Goals as goal

pub returns-then-place-gt-SIZE : goal.returns-then-place-gt-SIZE
returns-then-place-gt-SIZE c = shows-far (search rules)

pub returns : goal.returns
returns c = shows-piece c.push_part.ensures
