-- By the flags, then by what stands before.
use borrow.Author.Rules.{rules}
use Rattle.machine.specs.OnText.{on_exit_line_ending}
use Rattle.state_context.proofs.Commands.{sets, puts, narrow, told, whether-yes, whether-no, tells-behind}
use Rattle.on_text.proofs.on_exit_line_ending.Goals as goal

pub returns-then-is_raw : goal.returns-then-is_raw
unfolding on_exit_line_ending
returns-then-is_raw c = whether-yes (told c.is_raw.ensures) (search rules) (puts c.push.ensures)

pub returns-then-is_slurping : goal.returns-then-is_slurping
unfolding on_exit_line_ending
returns-then-is_slurping c = whether-no (told c.is_raw.ensures) (search rules) (whether-yes (told c.is_slurping.ensures) (search rules) (sets c.set_slurp.ensures))

pub returns-then-behind : goal.returns-then-behind
unfolding on_exit_line_ending
returns-then-behind c = whether-no (told c.is_raw.ensures) (search rules) (whether-no (told c.is_slurping.ensures) (search rules) (whether-yes tells-behind (search rules) (sets c.set_slurp-then-behind.ensures)))

pub returns : goal.returns
unfolding on_exit_line_ending
returns c = whether-no (told c.is_raw.ensures) (search rules) (whether-no (told c.is_slurping.ensures) (search rules) (whether-no tells-behind (search rules) (narrow (λ t v. v.sees) c.push_slice.ensures)))
