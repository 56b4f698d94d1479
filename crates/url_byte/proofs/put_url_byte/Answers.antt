-- Percent-encoded, an & or a ', or as it is. Assumes nothing.
use Rattle.lent.proofs.Writing.{by}
use Rattle.url_byte.proofs.Laws.{percent-byte, quoted-byte, kept_byte}
use Rattle.url_byte.proofs.put_url_byte.Goals as goal

pub returns-then-not-is_staying : goal.returns-then-not-is_staying
returns-then-not-is_staying c = search (by, percent-byte)

pub returns-then-b : goal.returns-then-b
returns-then-b c = search (by, quoted-byte)

pub returns : goal.returns
returns c = search (by, kept_byte)
