-- The heading starts, its text is released, it ends.
use mathlib.Core.Path.{refl}
use native.Mathlib.Omega.{arith}
use Rattle.write_held.proofs.Steady.{quiet-steady, then-steady-page}
use Rattle.write_held.proofs.Pages.{then-on-page, narrow-page, needs-page, same-within, regroup-four}
use Rattle.on_setext.proofs.Dashes.{underlined}
use Rattle.machine.specs.OnSetext.{setext_rank, on_exit_heading_setext_underline_sequence}
use Rattle.machine.specs.Command.{◌▸◌}
use Rattle.machine.specs.Words.{put, line_ending_if_needed, release}
use Rattle.on_setext.proofs.on_exit_heading_setext_underline_sequence.Goals as goal

pub shape_of-work : goal.shape_of-work
shape_of-work c = omega (arith, c.end_heading.auto, c.release_text-r.auto, c.start_heading-started.auto)

pub shape_of-out : goal.shape_of-out
shape_of-out c = omega (arith, c.end_heading.auto, c.release_text-r.auto, c.start_heading-started.auto)

pub returns : goal.returns
unfolding on_exit_heading_setext_underline_sequence setext_rank
returns c = let dash = underlined c.is_dash-dashes.ensures in
    let first = line_ending_if_needed ▸ put "<h" ▸ setext_rank ▸ put ">" in
    same-within (regroup-four line_ending_if_needed (put "<h") setext_rank (put ">") (release ▸ put "</h" ▸ setext_rank ▸ put ">"))
    (then-steady-page (quiet-steady first refl) (needs-page (λ a. tt) (narrow-page dash c.start_heading-started.ensures))
    (then-on-page (narrow-page (λ t v. record {}) c.release_text-r.ensures) (narrow-page dash c.end_heading.ensures) (λ a. tt)))
