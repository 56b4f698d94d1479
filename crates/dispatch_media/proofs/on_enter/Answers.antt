-- Each arm is its handler's; the other names have none, or are another dispatcher's. Assumes nothing.
use borrow.Author.Rules.{rules}
use mathlib.Core.Path.{refl}
use Rattle.machine.specs.Handlers.{rows}
use Rattle.dispatch_media.proofs.Enters.{by-unlent, by-starts, by-none}
use Rattle.dispatch_media.proofs.on_enter.Goals as goal

pub returns-in-45 : goal.returns-in-45
unfolding rows
returns-in-45 c = by-unlent 45 c.in-45.is refl c.on_enter_link.ensures

pub returns-in-46 : goal.returns-in-46
unfolding rows
returns-in-46 c = by-unlent 46 c.in-46.is refl c.on_enter_image.ensures

pub returns-in-49 : goal.returns-in-49
unfolding rows
returns-in-49 c = by-starts 49 c.in-49.is refl c.on_enter_resource.ensures

pub returns-in-53 : goal.returns-in-53
unfolding rows
returns-in-53 c = by-starts 53 c.in-53.is refl c.on_enter_definition.ensures

pub returns-in-62 : goal.returns-in-62
unfolding rows
returns-in-62 c = by-unlent 62 c.in-62.is refl c.on_enter_gfm_footnote_call.ensures

pub returns-in_default : goal.returns-in_default
returns-in_default c = by-none (search rules)
