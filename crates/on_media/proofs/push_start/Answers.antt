-- By the flag, one after the other.
use borrow.Author.Rules.{rules}
use native.Mathlib.Omega.{arith}
use Rattle.on_media.proofs.Tests.{alt-known, shown-no, shown-skipped}
use mathlib.Core.Path.{refl}
use Rattle.on_media.proofs.Chains.{then-shown, page-shown}
use Rattle.write_held.proofs.Steady.{quiet-steady}
use Rattle.machine.specs.Test.{is_image}
use Rattle.machine.specs.Media.{destination}
use Rattle.machine.specs.Command.{whether}
use Rattle.machine.specs.Words.{put, show}
use Rattle.on_media.proofs.push_start.Goals as goal

pub returns-then-is_alt : goal.returns-then-is_alt
returns-then-is_alt c = shown-skipped (alt-known c.is_alt.ensures) (search rules)

pub shape_of-work : goal.shape_of-work
shape_of-work c = omega (arith, c.put_alt.auto, c.show_destination-shown.auto, c.put_name-named.auto)

pub shape_of-out : goal.shape_of-out
shape_of-out c = omega (arith, c.put_alt.auto, c.show_destination-shown.auto, c.put_name-named.auto)

pub returns : goal.returns
returns c = shown-no (alt-known c.is_alt.ensures) (search rules)
    (then-shown (quiet-steady (whether is_image (put "<img src=\"") (put "<a href=\"")) refl) (page-shown (λ t v. record {}) (λ a. tt) c.put_name-named.ensures)
    (then-shown (quiet-steady (show destination) refl) c.show_destination-shown.ensures (page-shown (λ t v. record {}) (λ a. tt) c.put_alt.ensures)))
