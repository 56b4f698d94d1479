-- Said for inner functions, no part of what encoding means. Assumes nothing.
use Rattle.std.specs.Prelude.{Bool, ◌&&◌, ◌||◌, ℕ, eqb}
use Rattle.encode_byte.specs.declared.Escaping.{Escaping}
use Rattle.encode_byte.specs.declared.Escaping.TheVariants.{Off, Html, HtmlAndApostrophes}
use Rattle.encode_byte.specs.Byte.{escapes_html, escapes_apostrophes}

-- the bytes that become something else, but for the apostrophe
abbrev pub is_markup : (html : Bool) → ℕ → Bool
is_markup html b = eqb b 0 || (html && (eqb b 34 || eqb b 38 || eqb b 60 || eqb b 62))

abbrev pub is_apostrophe : ℕ → Bool
is_apostrophe b = eqb b 39

abbrev pub is_special : Escaping → ℕ → Bool
is_special escaping b = is_markup (escapes_html escaping) b || (escapes_apostrophes escaping && is_apostrophe b)

-- the same as bits
abbrev pub special_mask : Escaping → ℕ
special_mask Off = 1
special_mask Html = 0x5000004400000001
special_mask HtmlAndApostrophes = 0x500000c400000001
