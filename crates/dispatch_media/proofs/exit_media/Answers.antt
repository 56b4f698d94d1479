-- Each arm is its handler's; a resource is another dispatcher's. Assumes nothing.
use borrow.Author.Rules.{rules}
use mathlib.Core.Path.{refl}
use mathlib.Core.List.{[], ◌∷◌}
use native.Mathlib.Omega.{arith}
use Rattle.machine.specs.Handlers.{rows}
use Rattle.dispatch_turns.proofs.Loud.{still}
use Rattle.dispatch_media.specs.Exits.{exits_whole}
use Rattle.dispatch_media.proofs.Names.{quiet-exit}
use Rattle.dispatch_media.proofs.Exits.{by-unlent, by-starts, by-work, by-media, by-definitions}
use Rattle.dispatch_media.proofs.exit_media.Goals as goal

pub returns-in-45 : goal.returns-in-45
unfolding rows
returns-in-45 c = record { exits = λ f k l. by-media 45 c.in-45.is refl c.on_exit_media.ensures }

pub returns-in-46 : goal.returns-in-46
unfolding rows
returns-in-46 c = record { exits = λ f k l. by-media 46 c.in-46.is refl c.on_exit_media-in-46.ensures }

pub returns-in-47 : goal.returns-in-47
unfolding rows
returns-in-47 c = record { exits = λ f k l. by-work 47 c.in-47.is refl c.on_exit_label.ensures }

pub returns-in-48 : goal.returns-in-48
unfolding rows
returns-in-48 c = record { exits = λ f k l. by-unlent 48 c.in-48.is refl c.on_exit_label_text.ensures }

pub returns-in-50 : goal.returns-in-50
unfolding rows
returns-in-50 c = record { exits = λ f k l. by-work 50 c.in-50.is refl c.on_exit_resource_destination_string.ensures }

pub returns-in-51 : goal.returns-in-51
unfolding rows
returns-in-51 c = record { exits = λ f k l. by-work 51 c.in-51.is refl c.on_exit_resource_title_string.ensures }

pub returns-in-52 : goal.returns-in-52
unfolding rows
returns-in-52 c = record { exits = λ f k l. by-starts 52 c.in-52.is refl c.on_exit_reference_string.ensures }

pub returns-in-53 : goal.returns-in-53
unfolding rows
returns-in-53 c = record { exits = λ f k l. by-definitions 53 c.in-53.is refl c.on_exit_definition.ensures }

pub returns-in-54 : goal.returns-in-54
unfolding rows
returns-in-54 c = record { exits = λ f k l. by-starts 54 c.in-54.is refl c.on_exit_definition_label_string.ensures }

pub returns-in-55 : goal.returns-in-55
unfolding rows
returns-in-55 c = record { exits = λ f k l. by-work 55 c.in-55.is refl c.on_exit_definition_destination_string.ensures }

pub returns-in-56 : goal.returns-in-56
unfolding rows
returns-in-56 c = record { exits = λ f k l. by-work 56 c.in-56.is refl c.on_exit_definition_title_string.ensures }

pub returns-in_default : goal.returns-in_default
returns-in_default c = record { exits = λ f k l. still exits_whole (λ n h. quiet-exit n (omega arith)) (56 ∷ 55 ∷ 54 ∷ 53 ∷ 52 ∷ 51 ∷ 50 ∷ 48 ∷ 47 ∷ 46 ∷ 45 ∷ []) refl (search rules) }
