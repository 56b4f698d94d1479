-- Markup, or an apostrophe where it is escaped. Assumes nothing.
use Rattle.std.proofs.Common.{rules}
use Rattle.encode_byte.specs.Private.{is_markup, is_apostrophe}
use Rattle.encode.proofs.Special.{by-markup, by-apostrophe}
use Rattle.encode.proofs.has_special.Goals as goal

pub returns-then-has_any : goal.returns-then-has_any
returns-then-has_any c = by-markup c.args.escaping c.args.block.now c.escapes_html-html.ensures (c.has_any.ensures (is_markup c.escapes_html-html.result) (λ b x e. search rules)) c.if-has_any.true

pub returns-then-escapes_apostrophes : goal.returns-then-escapes_apostrophes
returns-then-escapes_apostrophes c =
    by-apostrophe c.args.escaping c.args.block.now c.escapes_html-html.ensures (c.has_any.ensures (is_markup c.escapes_html-html.result) (λ b x e. search rules)) c.escapes_apostrophes.ensures c.if-has_any.false c.if-escapes_apostrophes.true
    (c.has_any-then-escapes_apostrophes.ensures is_apostrophe (λ b x e. search rules))
