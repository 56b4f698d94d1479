-- By the answers.
use borrow.Author.Rules.{rules}
use Rattle.state_context.proofs.Commands.{any, idle, whether-yes, whether-no, met, unmet, told, tells-fence}
use Rattle.on_flow.proofs.end_open_code.Goals as goal

pub returns-then-not-is_fenced_once : goal.returns-then-not-is_fenced_once
returns-then-not-is_fenced_once c = unmet (told c.is_fenced_once.ensures) (search rules) idle

pub returns-then-not-is_in_container : goal.returns-then-not-is_in_container
returns-then-not-is_in_container c = met (told c.is_fenced_once.ensures) (search rules) (unmet (told c.is_in_container.ensures) (search rules) idle)

pub returns-then-fence_before : goal.returns-then-fence_before
returns-then-fence_before c = met (told c.is_fenced_once.ensures) (search rules) (met (told c.is_in_container.ensures) (search rules) (whether-yes tells-fence (search rules) idle))

pub returns : goal.returns
returns c = met (told c.is_fenced_once.ensures) (search rules) (met (told c.is_in_container.ensures) (search rules) (whether-no tells-fence (search rules) (any c.line_ending.ensures)))
