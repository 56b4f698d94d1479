-- The flag is what the open media say.
use Rattle.on_media.proofs.Tests.{leaves-image}
use Rattle.on_media.proofs.leave_image.Goals as goal

pub returns : goal.returns
returns c = leaves-image c.in_image-x.ensures c.set_alt-r.ensures
