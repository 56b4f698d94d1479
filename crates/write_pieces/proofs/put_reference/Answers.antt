-- Its bytes fit four. Assumes nothing.
use Rattle.write_pieces.proofs.Padded.{reference-fits, referenced}
use borrow.Author.Rules.{rules}
use Rattle.write_pieces.proofs.put_reference.Goals as goal

pub slice_bounds-put_encoded-end : goal.slice_bounds-put_encoded-end
slice_bounds-put_encoded-end c = search (reference-fits, rules)

pub returns : goal.returns
returns c = search (referenced, rules)
