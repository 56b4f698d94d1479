-- None in an image.
use Rattle.state_context.proofs.Commands.{untagged, tagged}
use Rattle.state_context.proofs.push_tag.Goals as goal

pub returns-then-is_alt : goal.returns-then-is_alt
returns-then-is_alt c = search untagged

pub returns : goal.returns
returns c = search tagged
