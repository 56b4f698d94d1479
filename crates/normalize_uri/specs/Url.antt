-- A URL percent-encoded, RULES R11.3 (`normalize` of `sanitize_uri.rs`). Assumes nothing.
use Rattle.std.specs.Prelude.{List, [], ◌∷◌, ◌++◌, ℕ}
use Rattle.url_byte.specs.Byte.{stays, url_byte}

-- percent-encoded, where what is encoded already stays
unfoldable pub normalize_of : List ℕ → List ℕ
normalize_of [] = []
normalize_of (b ∷ bs) = url_byte (stays (b ∷ bs)) b ++ normalize_of bs
