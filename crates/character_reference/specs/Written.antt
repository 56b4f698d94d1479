-- The bytes that are written for a code. Assumes nothing.
use Rattle.std.specs.Prelude.{List, ℕ, ltb, if◌then◌else◌}
use Rattle.utf8.specs.Utf8.{char_of, replacement}

-- past 10FFFF there is no character, and U+FFFD stands in
unfoldable pub written_of : ℕ → List ℕ
written_of c = if ltb c 0x110000 then char_of c else replacement
