-- Each arm is its handler's; the other names have none, or are another dispatcher's. Assumes nothing.
use borrow.Author.Rules.{rules}
use mathlib.Core.Path.{refl}
use mathlib.Core.List.{[], ◌∷◌}
use Rattle.machine.specs.Handlers.{rows}
use Rattle.machine.specs.OnLink.{on_enter_link, on_enter_image, on_enter_resource, on_enter_resource_destination_string}
use Rattle.machine.specs.OnDefinition.{on_enter_definition, on_enter_definition_destination_string}
use Rattle.dispatch_turns.proofs.Turns.{from-keeps, from-sets-for, seen_as}
use Rattle.dispatch_turns.proofs.Arms.{arm, keeping, opening, beginning, rest}
use Rattle.dispatch_enter.proofs.Laws.{html}
use Rattle.dispatch_enter.proofs.enter_inline.Goals as goal

pub returns-in-33 : goal.returns-in-33
unfolding rows
returns-in-33 c = opening 33 c.in-33.is refl c.on_enter_raw_text.ensures

pub returns-in-35 : goal.returns-in-35
unfolding rows
returns-in-35 c = arm 35 c.in-35.is refl (seen_as html (from-keeps c.on_enter_html_flow.ensures))

pub returns-in-37 : goal.returns-in-37
unfolding rows
returns-in-37 c = arm 37 c.in-37.is refl (seen_as html (from-sets-for c.on_enter_html_text.ensures))

pub returns-in-39 : goal.returns-in-39
unfolding rows
returns-in-39 c = keeping 39 c.in-39.is refl c.on_enter_emphasis.ensures

pub returns-in-40 : goal.returns-in-40
unfolding rows
returns-in-40 c = keeping 40 c.in-40.is refl c.on_enter_strong.ensures

pub returns-in-47 : goal.returns-in-47
unfolding rows
returns-in-47 c = beginning 47 c.in-47.is refl c.on_enter_buffer.ensures

pub returns-in-50 : goal.returns-in-50
unfolding rows
returns-in-50 c = beginning 50 c.in-50.is refl c.on_enter_destination_string.ensures

pub returns-in-51 : goal.returns-in-51
unfolding rows
returns-in-51 c = beginning 51 c.in-51.is refl c.on_enter_buffer-in-51.ensures

pub returns-in-52 : goal.returns-in-52
unfolding rows
returns-in-52 c = beginning 52 c.in-52.is refl c.on_enter_buffer-in-52.ensures

pub returns-in-54 : goal.returns-in-54
unfolding rows
returns-in-54 c = beginning 54 c.in-54.is refl c.on_enter_buffer-in-54.ensures

pub returns-in-55 : goal.returns-in-55
unfolding rows on_enter_resource_destination_string on_enter_definition_destination_string
returns-in-55 c = beginning 55 c.in-55.is refl c.on_enter_destination_string-in-55.ensures

pub returns-in-56 : goal.returns-in-56
unfolding rows
returns-in-56 c = beginning 56 c.in-56.is refl c.on_enter_buffer-in-56.ensures

pub returns-in_default : goal.returns-in_default
unfolding rows on_enter_link on_enter_image on_enter_resource on_enter_definition
returns-in_default c = rest (56 ∷ 55 ∷ 54 ∷ 52 ∷ 51 ∷ 50 ∷ 47 ∷ 40 ∷ 39 ∷ 37 ∷ 35 ∷ 33 ∷ []) refl (search rules)
