-- By the flag, then one after the other.
use borrow.Author.Rules.{rules}
use native.Mathlib.Omega.{arith}
use Rattle.state_context.proofs.Commands.{idle, seq, puts, told, whether-yes, whether-no}
use Rattle.on_inline.proofs.begin_protocol.Goals as goal

pub returns-then-is_alt : goal.returns-then-is_alt
returns-then-is_alt c = whether-yes (told c.is_alt.ensures) (search rules) idle

pub shape_of-captures : goal.shape_of-captures
shape_of-captures c = omega (arith, c.push-begun.auto, c.push_url-r.auto, c.push.auto)

pub shape_of-out : goal.shape_of-out
shape_of-out c = omega (arith, c.push-begun.auto, c.push_url-r.auto, c.push.auto)

pub returns : goal.returns
returns c = whether-no (told c.is_alt.ensures) (search rules) (seq (puts c.push-begun.ensures) (seq c.push_url-r.ensures (puts c.push.ensures)))
