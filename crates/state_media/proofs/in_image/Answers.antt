-- The bits but the lowest.
use Rattle.state_media.proofs.Newest.{older-image}
use Rattle.state_media.proofs.in_image.Goals as goal

pub returns : goal.returns
returns c = search older-image
