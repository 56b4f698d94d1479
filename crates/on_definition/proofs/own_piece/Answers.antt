-- By the variant.
use Rattle.on_definition.proofs.Pieces.{piece-nowhere, piece-defined}
use Rattle.on_definition.proofs.own_piece.Goals as goal

pub returns-in-Nowhere : goal.returns-in-Nowhere
returns-in-Nowhere c = search piece-nowhere

pub returns-in-Defined : goal.returns-in-Defined
returns-in-Defined c = search piece-defined
