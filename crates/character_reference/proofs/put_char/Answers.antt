-- By the character's length.
use Rattle.character_reference.proofs.Put.{one_byte, two_bytes, three-bytes, four_bytes, no-character}
use Rattle.character_reference.proofs.put_char.Goals as goal

pub returns-in-0-to-127 : goal.returns-in-0-to-127
returns-in-0-to-127 c = search one_byte

pub returns-in-128-to-2047 : goal.returns-in-128-to-2047
returns-in-128-to-2047 c = search two_bytes

pub returns-in-2048-to-65535 : goal.returns-in-2048-to-65535
returns-in-2048-to-65535 c = search three-bytes

pub returns-in-65536-to-1114111 : goal.returns-in-65536-to-1114111
returns-in-65536-to-1114111 c = search four_bytes

pub returns-in_default : goal.returns-in_default
returns-in_default c = search no-character
