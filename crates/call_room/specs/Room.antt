-- How many bytes a call that writes a text gives for each byte of it, at most (RULES R8.6). Assumes nothing.
use Rattle.std.specs.Prelude.{ℕ}

-- escape, with encoding: a " becomes six bytes
abbrev pub most_escaped : ℕ
most_escaped = 6

-- escape, without: a NUL becomes three
abbrev pub most_replaced : ℕ
most_replaced = 3

-- sanitize, sanitize_link, sanitize_image: a & becomes five
abbrev pub most_sanitized : ℕ
most_sanitized = 5

-- normalize: a byte that does not stay becomes three
abbrev pub most_normalized : ℕ
most_normalized = 3
