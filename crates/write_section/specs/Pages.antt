-- The footnote section as it is written behind a page, where no capture is open: no part of a promise. Assumes nothing.
use Rattle.std.specs.Prelude.{List, [], ◌∷◌, ◌++◌, ℕ, ◌-◌, take, drop, if◌then◌else◌}
use Rattle.lent.specs.Bytes.{bytes}
use Rattle.machine.specs.declared.Ending.{Ending}
use Rattle.machine.specs.declared.Fixed.{Fixed}
use Rattle.machine.specs.Outcome.{Outcome, go, ◌>>=◌}
use Rattle.machine.specs.State.{Footnote, Call}
use Rattle.machine.specs.Buffers.{ending_bytes, is_eol, last_or}
use Rattle.machine.specs.Footnote.{address_of}
use Rattle.machine.specs.Section.{body_of, body_end, ends_paragraph, backreferences}

-- a line ending, unless the page is empty or ends in one
unfoldable pub ended : Ending → (page : List ℕ) → List ℕ
ended ending page = if is_eol (last_or 10 page) then page else page ++ ending_bytes ending

-- ---- head and tail

abbrev pub heading_text : List ℕ
heading_text = bytes "<section data-footnotes=\"\" class=\"footnotes\"><h2 id=\"footnote-label\" class=\"sr-only\">Footnotes</h2>"

unfoldable pub head_page : Ending → (page : List ℕ) → List ℕ
head_page ending page = ended ending page ++ (heading_text ++ ending_bytes ending) ++ bytes "<ol>"

unfoldable pub tail_text : Ending → List ℕ
tail_text ending = (ending_bytes ending ++ bytes "</ol>") ++ (ending_bytes ending ++ bytes "</section>") ++ ending_bytes ending

-- ---- an item

unfoldable pub item_start : Ending → (address : List ℕ) → List ℕ
item_start ending address = (ending_bytes ending ++ bytes "<li id=\"user-content-fn-") ++ address ++ (bytes "\">" ++ ending_bytes ending)

-- a body cut in two, with the way back between
unfoldable pub split_body : (body : List ℕ) → (cut : ℕ) → (back : List ℕ) → List ℕ
split_body body cut back = take cut body ++ bytes " " ++ back ++ drop cut body

unfoldable pub behind_body : Ending → (body back page : List ℕ) → List ℕ
behind_body ending body back page = ended ending (page ++ body) ++ back

unfoldable pub body_page : Ending → (body back page : List ℕ) → List ℕ
body_page ending body back page = if ends_paragraph body then page ++ split_body body (body_end body - 4) back else behind_body ending body back page

unfoldable pub item_end : Ending → (page : List ℕ) → List ℕ
item_end ending page = ended ending page ++ bytes "</li>"

unfoldable pub item_page : Fixed → (label : List ℕ) → (times : ℕ) → (body page : List ℕ) → List ℕ
item_page fixed label times body page =
    let address = address_of fixed.apostrophes label in
    item_end fixed.ending (body_page fixed.ending body (backreferences address times) (page ++ item_start fixed.ending address))

-- ---- all items

unfoldable pub items_page : Fixed → List Footnote → List Call → (page : List ℕ) → Outcome (List ℕ)
items_page fixed fs [] page = go page
items_page fixed fs (c ∷ cs) page = body_of c.label fs >>= λ body. items_page fixed fs cs (item_page fixed c.label c.times body page)
