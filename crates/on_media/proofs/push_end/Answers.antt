-- By the flag, one after the other.
use borrow.Author.Rules.{rules}
use native.Mathlib.Omega.{arith}
use Rattle.on_media.proofs.Tests.{alt-known, shown-no, shown-skipped}
use mathlib.Core.Path.{refl}
use Rattle.on_media.proofs.Chains.{then-shown, page-shown}
use Rattle.write_held.proofs.Steady.{quiet-steady}
use Rattle.on_media.proofs.Writes.{puts-page}
use Rattle.state_context.specs.Rel.{Any}
use Rattle.state_whole.specs.Whole.{Always}
use Rattle.machine.specs.Test.{is_image}
use Rattle.machine.specs.Media.{title}
use Rattle.machine.specs.Words.{when, put, show}
use Rattle.on_media.proofs.push_end.Goals as goal

pub returns-then-is_alt : goal.returns-then-is_alt
returns-then-is_alt c = shown-skipped (alt-known c.is_alt.ensures) (search rules)

pub shape_of-work : goal.shape_of-work
shape_of-work c = omega (arith, c.write_text.auto, c.put_slash-slashed.auto, c.show_title-titled.auto, c.write_text-quoted.auto)

pub shape_of-out : goal.shape_of-out
shape_of-out c = omega (arith, c.write_text.auto, c.put_slash-slashed.auto, c.show_title-titled.auto, c.write_text-quoted.auto)

pub returns : goal.returns
returns c = shown-no (alt-known c.is_alt.ensures) c.if-is_alt.false
    (then-shown (quiet-steady (put "\"") refl) (page-shown {N = Always} {Wide = Any} (λ t v. v) (λ a. tt) (puts-page c.write_text-quoted.ensures))
    (then-shown (quiet-steady (show title) refl) c.show_title-titled.ensures
    (then-shown (quiet-steady (when is_image (put " /")) refl) (page-shown (λ t v. v) (λ a. tt) c.put_slash-slashed.ensures) (page-shown {N = Always} {Wide = Any} (λ t v. v) (λ a. tt) (puts-page c.write_text.ensures)))))
