-- The end of a link or an image. Assumes nothing.
use Rattle.machine.specs.Set.{alt}
use Rattle.machine.specs.Media.{label, destination, title}
use Rattle.machine.specs.Test.{is, is_image}
use Rattle.machine.specs.Command.{Command, ◌▸◌, whether}
use Rattle.machine.specs.Words.{when, unless, tag, put, close_media, leave_image, seek_definition, show}

-- within an image, the label alone
unfoldable pub on_exit_media : Command
on_exit_media =
    leave_image
    ▸ seek_definition
    ▸ unless (is alt) (whether is_image (put "<img src=\"") (put "<a href=\"") ▸ show destination ▸ when is_image (put "\" alt=\""))
    ▸ when is_image (show label)
    ▸ unless (is alt) (put "\"" ▸ show title ▸ when is_image (put " /") ▸ put ">")
    ▸ unless is_image (show label ▸ tag "</a>")
    ▸ close_media
