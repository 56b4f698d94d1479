-- A URL made safe for an attribute, RULES R11.4 (`sanitize` of `sanitize_uri.rs`). Assumes nothing.
use Rattle.std.specs.Prelude.{Bool, true, List, ℕ}
use Rattle.encode_byte.specs.Byte.{escaping_of}
use Rattle.encode.specs.Encode.{encode_of}
pub use Rattle.url_byte.specs.Byte.{is_kept}
unfoldable pub use Rattle.url_byte.specs.Byte.{two_alnum, stays, hex_upper, percent, url_byte}
unfoldable pub use Rattle.normalize_uri.specs.Url.{normalize_of}

-- percent-encoded, and then encoded for HTML
unfoldable pub sanitize_of : (apostrophes : Bool) → List ℕ → List ℕ
sanitize_of apostrophes url = encode_of (escaping_of true apostrophes) (normalize_of url)
