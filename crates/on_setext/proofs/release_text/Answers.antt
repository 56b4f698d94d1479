-- By whether a text waits.
use borrow.Author.Rules.{rules}
use Rattle.on_setext.proofs.Released.{not-held, releases}
use native.Mathlib.Omega.{arith}
use Rattle.on_setext.proofs.release_text.Goals as goal

pub returns-in-None : goal.returns-in-None
returns-in-None c = not-held (search rules)

pub returns-in-Some : goal.returns-in-Some
returns-in-Some c = releases (search rules) c.push_piece-c.ensures (omega (arith, c.push_piece-c.auto)) c.release-r.ensures
