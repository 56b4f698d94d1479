-- Each arm is its handler's; names 0, 1, 2 and 7 have none. Assumes nothing.
use borrow.Author.Rules.{rules}
use mathlib.Core.Path.{refl}
use mathlib.Core.List.{[], ◌∷◌}
use Rattle.machine.specs.Handlers.{rows}
use Rattle.dispatch_turns.proofs.Turns.{seen_as, from-keeps, from-sets}
use Rattle.dispatch_turns.proofs.Arms.{arm, rest}
use Rattle.dispatch_exit_inline.proofs.Views.{of-here, at_here}
use Rattle.dispatch_exit_inline.proofs.exit_data.Goals as goal

pub returns-in-3 : goal.returns-in-3
unfolding rows
returns-in-3 c = arm 3 c.in-3.is refl (from-keeps c.exit_line_ending.ensures)

pub returns-in-4 : goal.returns-in-4
unfolding rows
returns-in-4 c = arm 4 c.in-4.is refl (seen_as at_here (from-keeps c.exit_blank_line_ending.ensures))

pub returns-in-5 : goal.returns-in-5
unfolding rows
returns-in-5 c = arm 5 c.in-5.is refl (seen_as of-here (from-keeps c.on_exit_data.ensures))

pub returns-in-6 : goal.returns-in-6
unfolding rows
returns-in-6 c = arm 6 c.in-6.is refl (seen_as of-here (from-keeps c.on_exit_data-in-6.ensures))

pub returns-in-8 : goal.returns-in-8
unfolding rows
returns-in-8 c = arm 8 c.in-8.is refl (from-sets c.on_exit_character_reference_marker.ensures)

pub returns-in-9 : goal.returns-in-9
unfolding rows
returns-in-9 c = arm 9 c.in-9.is refl (from-sets c.on_exit_character_reference_marker_numeric.ensures)

pub returns-in-10 : goal.returns-in-10
unfolding rows
returns-in-10 c = arm 10 c.in-10.is refl (from-sets c.on_exit_character_reference_marker_hexadecimal.ensures)

pub returns-in-11 : goal.returns-in-11
unfolding rows
returns-in-11 c = arm 11 c.in-11.is refl (seen_as of-here (from-keeps c.on_exit_character_reference_value.ensures))

pub returns-in_default : goal.returns-in_default
unfolding rows
returns-in_default c = rest (11 ∷ 10 ∷ 9 ∷ 8 ∷ 6 ∷ 5 ∷ 4 ∷ 3 ∷ []) refl (search rules)
