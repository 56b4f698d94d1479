-- The lowest bit.
use Rattle.state_media.proofs.Newest.{image-is}
use Rattle.state_media.proofs.is_image.Goals as goal

pub returns : goal.returns
returns c = search image-is
