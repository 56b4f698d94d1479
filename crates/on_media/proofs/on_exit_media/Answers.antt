-- Part by part.
use native.Mathlib.Omega.{arith}
use mathlib.Core.Path.{refl}
use Rattle.machine.specs.OnMedia.{on_exit_media}
use Rattle.on_media.proofs.Exits.{exits}
use Rattle.on_media.proofs.on_exit_media.Goals as goal

pub shape_of-work : goal.shape_of-work
shape_of-work c = omega (arith, c.push_text-shown.auto, c.push_end-ended.auto, c.push_label-labelled.auto, c.push_start-started.auto)

pub shape_of-out : goal.shape_of-out
shape_of-out c = omega (arith, c.push_text-shown.auto, c.push_end-ended.auto, c.push_label-labelled.auto, c.push_start-started.auto)

pub returns : goal.returns
unfolding on_exit_media
returns c = exits refl refl refl refl c.leave_image-left.ensures c.seek_definition-led.ensures c.push_start-started.ensures c.push_label-labelled.ensures c.push_end-ended.ensures c.push_text-shown.ensures c.close_media-r.ensures
