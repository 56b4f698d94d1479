-- Each arm is its handler's, and each name has one. Assumes nothing.
use mathlib.Core.Path.{refl}
use borrow.Author.Rules.{rules}
use mathlib.Core.List.{[], ◌∷◌}
use Rattle.machine.specs.Handlers.{rows}
use Rattle.dispatch_turns.proofs.Turns.{seen_as, from-keeps, from-takes, from-sets}
use Rattle.dispatch_turns.proofs.Arms.{arm, rest}
use Rattle.dispatch_exit_inline.proofs.Views.{of-with}
use Rattle.dispatch_exit_inline.proofs.exit_inline.Goals as goal

pub returns-in-33 : goal.returns-in-33
unfolding rows
returns-in-33 c = arm 33 c.in-33.is refl (seen_as (λ t v. record {}) (from-takes c.on_exit_raw_text.ensures))

pub returns-in-34 : goal.returns-in-34
unfolding rows
returns-in-34 c = arm 34 c.in-34.is refl (seen_as of-with (from-keeps c.on_exit_data.ensures))

pub returns-in-35 : goal.returns-in-35
unfolding rows
returns-in-35 c = arm 35 c.in-35.is refl (from-sets c.on_exit_html.ensures)

pub returns-in-36 : goal.returns-in-36
unfolding rows
returns-in-36 c = arm 36 c.in-36.is refl (seen_as of-with (from-keeps c.on_exit_html_data.ensures))

pub returns-in-37 : goal.returns-in-37
unfolding rows
returns-in-37 c = arm 37 c.in-37.is refl (from-sets c.on_exit_html-in-37.ensures)

pub returns-in-38 : goal.returns-in-38
unfolding rows
returns-in-38 c = arm 38 c.in-38.is refl (seen_as of-with (from-keeps c.on_exit_html_data-in-38.ensures))

pub returns-in-39 : goal.returns-in-39
unfolding rows
returns-in-39 c = arm 39 c.in-39.is refl (seen_as (λ t v. record {}) (from-keeps c.on_exit_emphasis.ensures))

pub returns-in-40 : goal.returns-in-40
unfolding rows
returns-in-40 c = arm 40 c.in-40.is refl (seen_as (λ t v. record {}) (from-keeps c.on_exit_strong.ensures))

pub returns-in-41 : goal.returns-in-41
unfolding rows
returns-in-41 c = arm 41 c.in-41.is refl (seen_as (λ t v. record {}) (from-keeps c.on_exit_break.ensures))

pub returns-in-42 : goal.returns-in-42
unfolding rows
returns-in-42 c = arm 42 c.in-42.is refl (seen_as (λ t v. record {}) (from-keeps c.on_exit_break-in-42.ensures))

pub returns-in-43 : goal.returns-in-43
unfolding rows
returns-in-43 c = arm 43 c.in-43.is refl (from-keeps c.on_exit_autolink_email.ensures)

pub returns-in-44 : goal.returns-in-44
unfolding rows
returns-in-44 c = arm 44 c.in-44.is refl (from-keeps c.on_exit_autolink_protocol.ensures)

pub returns-in_default : goal.returns-in_default
unfolding rows
returns-in_default c = rest (44 ∷ 43 ∷ 42 ∷ 41 ∷ 40 ∷ 39 ∷ 38 ∷ 37 ∷ 36 ∷ 35 ∷ 34 ∷ 33 ∷ []) refl (search rules)
