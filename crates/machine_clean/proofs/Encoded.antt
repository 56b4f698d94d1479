-- What is encoded, and what a character reference stands for. Assumes nothing.
use Rattle.std.proofs.Common.{Option, Some, None, ◌≡◌, refl, List, [], ◌∷◌, ℕ, ◌≤◌, ◌<◌, arith, T}
use Rattle.lent.proofs.Computed.{computed}
use Rattle.utf8.specs.Utf8.{is_utf8, char_of, after_first}
use Rattle.utf8.proofs.Laws.{each-valid}
use Rattle.utf8.proofs.Chars.{char-valid}
use Rattle.encode_byte.specs.declared.Escaping.{Escaping}
use Rattle.encode_byte.specs.declared.Escaping.TheVariants.{Off, Html, HtmlAndApostrophes}
use Rattle.encode_byte.specs.Byte.{encode_byte}
use Rattle.encode_byte.proofs.Laws.{kept}
use Rattle.encode.specs.Encode.{encode_of}
use Rattle.character_reference.specs.declared.Marker.{Marker}
use Rattle.character_reference.specs.declared.Names.{Names}
use Rattle.character_reference.specs.Reference.{value_of, stands_for, reference_for}
use Rattle.character_reference.proofs.Laws.{is-scalar}
use Rattle.machine_clean.specs.Clean.{Valid, Maybe, missing, there}
use Rattle.machine_clean.proofs.Valid.{valid, holds}

-- ---- encoding

-- an ASCII byte becomes a text, and any other stays
byte : (on : Escaping) (b : ℕ) → b < 0x80 → T (is_utf8 (encode_byte on b))
unfolding is_utf8 encode_byte after_first
byte Off b h = computed (λ b. is_utf8 (encode_byte Off b)) 0x80 tt b h
byte Html b h = computed (λ b. is_utf8 (encode_byte Html b)) 0x80 tt b h
byte HtmlAndApostrophes b h = computed (λ b. is_utf8 (encode_byte HtmlAndApostrophes b)) 0x80 tt b h

other : (on : Escaping) (b : ℕ) → 0x80 ≤ b → encode_byte on b ≡ b ∷ []
other on b h = kept on b (omega arith) (omega arith) (omega arith) (omega arith) (omega arith) (omega arith)

pub encoded : (on : Escaping) {b : List ℕ} → Valid b → Valid (encode_of on b)
unfolding encode_of
encoded on {b} v = valid (encode_of on b) (each-valid (encode_byte on) (byte on) (other on) b (holds v))

-- ---- character references

pub referred : (names : Names) (m : Marker) (b : List ℕ) → Maybe (reference_for names m b)
unfolding reference_for
referred names m b = on (value_of names m b) refl
  where
    on : (v : Option ℕ) → v ≡ value_of names m b → Maybe (stands_for v)
    on (Some c) e = there (valid (char_of c) (char-valid c (rw (is-scalar names m b (Some c) c e refl) tt)))
    on None e = missing
