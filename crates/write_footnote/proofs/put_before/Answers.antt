-- With HTML escaped, and apostrophes as asked. Assumes nothing.
use Rattle.std.proofs.Common.{[], ◌∷◌, true, rules}
use Rattle.lent.specs.Fill.{Filled}
use Rattle.lent.proofs.Laws.{same}
use Rattle.encode_byte.specs.Byte.{escaping_of}
use Rattle.encode.specs.Encode.{encode_of}
use Rattle.url_byte.specs.Private.{byte_of}
use Rattle.write_footnote.proofs.Laws.{before-two}
use Rattle.write_footnote.proofs.put_before.Goals as goal

pub returns : goal.returns
returns c =
    let a = c.args in
    let w = c.put_url_byte.new.out in
    let f : Filled a.out.now a.at (encode_of (escaping_of true a.apostrophes) (byte_of (a.b ∷ a.x ∷ a.y ∷ []))) w.bytes.now w.at = search (same, before-two) in
    record { bytes = search (rules, f.bytes); place = f.place }
