-- A text encoded for HTML, RULES R12 (`encode.rs`), byte by byte. Assumes nothing.
use Rattle.std.specs.Prelude.{List, ℕ}
use Rattle.lent.specs.Bytes.{each}
use Rattle.encode_byte.specs.declared.Escaping.{Escaping}
unfoldable pub use Rattle.encode_byte.specs.Byte.{encode_byte}

unfoldable pub encode_of : Escaping → List ℕ → List ℕ
encode_of escaping s = each (encode_byte escaping) s
