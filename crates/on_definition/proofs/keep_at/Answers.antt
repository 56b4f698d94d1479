-- By its pieces.
use native.Mathlib.Omega.{arith}
use Rattle.on_definition.proofs.Keeps.{keeps-pieces}
use Rattle.on_definition.proofs.keep_at.Goals as goal

pub returns : goal.returns
returns c = keeps-pieces c.own_piece-own.ensures c.text_piece-title.ensures c.word_of-word.ensures c.at_most-place.ensures c.at_most-title_place.ensures c.keep_definition-r.ensures c.close_media-r.ensures (omega (arith, c.keep_definition-r.auto))
