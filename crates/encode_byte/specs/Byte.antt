-- One byte encoded for HTML (`encode.rs`). Assumes nothing.
use Rattle.std.specs.Prelude.{Bool, true, false, not, ◌&&◌, List, [], ◌∷◌, ℕ, eqb, if◌then◌else◌}
use Rattle.lent.specs.Bytes.{bytes}
use Rattle.utf8.specs.Utf8.{replacement}
use Rattle.encode_byte.specs.declared.Escaping.{Escaping}
use Rattle.encode_byte.specs.declared.Escaping.TheVariants.{Off, Html, HtmlAndApostrophes}

-- RULES R12.2: apostrophes are escaped only where HTML is
abbrev pub escaping_of : (html apostrophes : Bool) → Escaping
escaping_of false apostrophes = Off
escaping_of true false = Html
escaping_of true true = HtmlAndApostrophes

abbrev pub escapes_html : Escaping → Bool
escapes_html Off = false
escapes_html Html = true
escapes_html HtmlAndApostrophes = true

abbrev pub escapes_apostrophes : Escaping → Bool
escapes_apostrophes Off = false
escapes_apostrophes Html = false
escapes_apostrophes HtmlAndApostrophes = true

-- RULES R12.1: NUL in any case; & < > " with encoding on; then ' too, where it is asked for
unfoldable pub encode_byte : Escaping → ℕ → List ℕ
encode_byte escaping b =
    if eqb b 0 then replacement
    else (if not (escapes_html escaping) then b ∷ []
    else (if eqb b 38 then bytes "&amp;"
    else (if eqb b 60 then bytes "&lt;"
    else (if eqb b 62 then bytes "&gt;"
    else (if eqb b 34 then bytes "&quot;"
    else (if escapes_apostrophes escaping && eqb b 39 then bytes "&#39;"
    else b ∷ []))))))
