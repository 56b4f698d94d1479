-- The table of RULES R19.1 in one statement, and the examples of RULES R19.2, by computation. Assumes nothing.
use mathlib.Core.Path.{◌≡◌, refl}
use mathlib.Core.Bool.{true, false}
use mathlib.Core.List.{List, [], ◌∷◌, ◌++◌}
use Prim.Native.Nat.{ℕ}
use Rattle.lent.specs.Bytes.{bytes}
use Rattle.sanitize_uri.specs.Url.{sanitize_of}
use Rattle.sanitize_uri.specs.Protocols.{link_schemes, sanitize_with_protocols_of}
use Rattle.event.specs.declared.Event.{Event}
use Rattle.machine.specs.declared.Ending.TheVariants.{Lf}
use Rattle.machine.specs.Outcome.{Outcome, go}
use Rattle.machine.specs.Run.{Answer, page, refused, run_of, machine_of}
use Rattle.machine.proofs.Running.{running}
use Rattle.machine.proofs.Answers.{off, older, quoted, quoted_on, enter, exit, enter_with}

-- ---- RULES R19.1

-- a paragraph of code text, and a table of one cell that holds some: n bytes each
abbrev code_text : ℕ → List Event
code_text n = enter 33 ∷ enter 34 ∷ exit 34 0 n ∷ exit 33 0 n ∷ []

abbrev in_paragraph : ℕ → List Event
in_paragraph n = enter 12 ∷ code_text n ++ (exit 12 0 n ∷ [])

abbrev in_cell : ℕ → List Event
in_cell n =
    enter_with 57 1 ∷ enter 58 ∷ enter 60 ∷ enter 61 ∷ code_text n
    ++ (exit 61 0 n ∷ exit 60 0 n ∷ exit 58 0 n ∷ exit 57 0 n ∷ [])

pub table :
    (sanitize_of false (bytes "%zz") ≡ bytes "%zz")
    × (sanitize_of false (bytes "%20") ≡ bytes "%20")
    × (sanitize_of false (bytes "%%20") ≡ bytes "%25%20")
    × (sanitize_of false (bytes "%2") ≡ bytes "%252")
    × (sanitize_of false (bytes "") ≡ bytes "")
    × (sanitize_of false (bytes "a b&c") ≡ bytes "a%20b&amp;c")
    × (sanitize_with_protocols_of false link_schemes (bytes ":x") ≡ bytes "")
    × (sanitize_with_protocols_of false link_schemes (bytes "JAVASCRIPT:x") ≡ bytes "")
    × (sanitize_with_protocols_of false link_schemes (bytes "HTTP:x") ≡ bytes "HTTP:x")
    × (sanitize_with_protocols_of false link_schemes (bytes "a/b:c") ≡ bytes "a/b:c")
    × (machine_of (bytes " a ") (off Lf) (in_paragraph 3) ≡ go (bytes "<p><code>a</code></p>"))
    × (machine_of (bytes "  ") (off Lf) (in_paragraph 2) ≡ go (bytes "<p><code>  </code></p>"))
    × (machine_of (bytes "   ") (off Lf) (in_paragraph 3) ≡ go (bytes "<p><code>   </code></p>"))
    × (machine_of (bytes "a\\|b") (off Lf) (in_cell 4) ≡ go (bytes "<table>\n<thead>\n<tr>\n<th><code>a|b</code></th>\n</tr>\n</thead>\n</table>"))
unfolding running
table = (refl, refl, refl, refl, refl, refl, refl, refl, refl, refl, refl, refl, refl, refl)

-- ---- the worked examples

abbrev paragraph : List Event
paragraph = enter 12 ∷ enter 5 ∷ exit 5 0 1 ∷ exit 12 0 1 ∷ enter 3 ∷ exit 3 1 2 ∷ []

-- an ordered list of one empty item, whose value is n bytes long
abbrev list_of : ℕ → List Event
list_of n = enter 21 ∷ enter 23 ∷ enter 24 ∷ enter 26 ∷ exit 26 0 n ∷ enter 25 ∷ exit 25 n n ∷ exit 24 0 n ∷ exit 23 0 n ∷ exit 21 0 n ∷ []

pub worked :
    (run_of (bytes "a\n") (off Lf) 9 paragraph ≡ page (bytes "<p>a</p>\n"))
    × (run_of (bytes "a\n") (off Lf) 8 paragraph ≡ refused 9 5)
    × (machine_of (bytes "007") (off Lf) (list_of 3) ≡ go (bytes "<ol start=\"7\">\n<li></li>\n</ol>"))
    × (machine_of (bytes "1") (off Lf) (list_of 1) ≡ go (bytes "<ol>\n<li></li>\n</ol>"))
    × (run_of [] (off Lf) 0 [] ≡ page [])
unfolding running
worked = (refl, refl, refl, refl, refl)

-- ---- the names option

abbrev referring : ℕ → List Event
referring n = enter 12 ∷ enter 7 ∷ enter 8 ∷ exit 8 0 0 ∷ enter 11 ∷ exit 11 0 n ∷ exit 7 0 n ∷ exit 12 0 n ∷ []

-- lang is U+2329 in HTML 4.01 and U+27E8 in HTML5; other names are the same in both
pub named :
    (machine_of (bytes "lang") (older Lf) (referring 4) ≡ go (bytes "<p>" ++ (0xE2 ∷ 0x8C ∷ 0xA9 ∷ []) ++ bytes "</p>"))
    × (machine_of (bytes "lang") (off Lf) (referring 4) ≡ go (bytes "<p>" ++ (0xE2 ∷ 0x9F ∷ 0xA8 ∷ []) ++ bytes "</p>"))
    × (machine_of (bytes "deg") (older Lf) (referring 3) ≡ go (bytes "<p>" ++ (0xC2 ∷ 0xB0 ∷ []) ++ bytes "</p>"))
    × (machine_of (bytes "amp") (older Lf) (referring 3) ≡ go (bytes "<p>&amp;</p>"))
unfolding running
named = (refl, refl, refl, refl)

-- ---- apostrophes

abbrev html : ℕ → List Event
html n = enter 12 ∷ enter 37 ∷ enter 38 ∷ exit 38 0 n ∷ exit 37 0 n ∷ exit 12 0 n ∷ []

abbrev saying : ℕ → List Event
saying n = enter 12 ∷ enter 5 ∷ exit 5 0 n ∷ exit 12 0 n ∷ []

-- in text and URLs, and not in HTML that is allowed; a scheme is judged before it is escaped
pub quotes :
    (machine_of (bytes "it's") (off Lf) (saying 4) ≡ go (bytes "<p>it's</p>"))
    × (machine_of (bytes "it's") (quoted Lf) (saying 4) ≡ go (bytes "<p>it&#39;s</p>"))
    × (machine_of (bytes "<a b='c'>") (quoted Lf) (html 9) ≡ go (bytes "<p>&lt;a b=&#39;c&#39;&gt;</p>"))
    × (machine_of (bytes "<a b='c'>") (quoted_on Lf) (html 9) ≡ go (bytes "<p><a b='c'></p>"))
    × (sanitize_of true (bytes "a'b%27") ≡ bytes "a&#39;b%27")
    × (sanitize_with_protocols_of true link_schemes (bytes "javascript':x") ≡ bytes "")
    × (sanitize_with_protocols_of true link_schemes (bytes "http:x'y") ≡ bytes "http:x&#39;y")
    × (sanitize_with_protocols_of true link_schemes (bytes "x'/y:z") ≡ bytes "x&#39;/y:z")
unfolding running
quotes = (refl, refl, refl, refl, refl, refl, refl, refl)
