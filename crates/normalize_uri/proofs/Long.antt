-- What a part becomes is at least as long: it covers what was moved ahead. Assumes nothing.
use Rattle.std.proofs.Common.{if◌then◌else◌, Bool, true, false, not, ◌&&◌, List, [], ◌∷◌, ℕ, zero, suc, ◌≤◌, arith, eqb, length, length-append}
use Rattle.lent.specs.Bytes.{each}
use Rattle.encode_byte.specs.declared.Escaping.{Escaping}
use Rattle.encode_byte.specs.Byte.{escapes_html, escapes_apostrophes, encode_byte}
use Rattle.encode.specs.Encode.{encode_of}
use Rattle.url_byte.specs.Byte.{stays, percent, url_byte}
use Rattle.url_byte.specs.Private.{byte_of}
use Rattle.normalize_uri.specs.Private.{part_of}

either : (x : Bool) (s t : List ℕ) → 1 ≤ length s → 1 ≤ length t → 1 ≤ length (if x then s else t)
either true s t h k = h
either false s t h k = k

encoded : (on : Escaping) (b : ℕ) → 1 ≤ length (encode_byte on b)
unfolding encode_byte
encoded on b =
    either (eqb b 0) _ _ (omega arith)
    (either (not (escapes_html on)) _ _ (omega arith)
    (either (eqb b 38) _ _ (omega arith)
    (either (eqb b 60) _ _ (omega arith)
    (either (eqb b 62) _ _ (omega arith) (either (eqb b 34) _ _ (omega arith) (either (escapes_apostrophes on && eqb b 39) _ _ (omega arith) (omega arith)))))))

byte-long : (x : Bool) (b : ℕ) → 1 ≤ length (url_byte x b)
unfolding url_byte percent
byte-long true b = omega arith
byte-long false b = omega arith

each_long : (on : Escaping) (s : List ℕ) → length s ≤ length (each (encode_byte on) s)
each_long on [] = omega arith
each_long on (b ∷ s) =
    let e = length-append (encode_byte on b) (each (encode_byte on) s) in
    let h = encoded on b in
    let k = each_long on s in
    omega arith

part_length : (n : ℕ) (l : List ℕ) → n ≤ length l → n ≤ length (part_of n l)
unfolding part_of byte_of
part_length zero l h = omega arith
part_length (suc n) [] h = absurd (omega arith)
part_length (suc n) (b ∷ l) h =
    let e = length-append (url_byte (stays (b ∷ l)) b) (part_of n l) in
    let k = byte-long (stays (b ∷ l)) b in
    let m = part_length n l (omega arith) in
    omega arith

pub part-long : (on : Escaping) (n : ℕ) (l : List ℕ) → n ≤ length l → n ≤ length (encode_of on (part_of n l))
unfolding encode_of
part-long on n l h =
    let a = part_length n l h in
    let b = each_long on (part_of n l) in
    omega arith
