-- The pieces in which inner functions write a call and a backreference: no part of a promise. Assumes nothing.
use Rattle.std.specs.Prelude.{List, ◌++◌, ℕ, ltb, if◌then◌else◌}
use Rattle.lent.specs.Bytes.{bytes}
use Rattle.machine.specs.Text.{decimal}
use Rattle.machine.specs.Footnote.{again_text}
use Rattle.machine.specs.Section.{arrow, sup_text, backreference}

-- ---- a call

unfoldable pub call_href : (address : List ℕ) → List ℕ
call_href address = bytes "<sup><a href=\"#user-content-fn-" ++ address

unfoldable pub call_id : (address : List ℕ) → (times : ℕ) → List ℕ
call_id address times = bytes "\" id=\"user-content-fnref-" ++ address ++ again_text times

unfoldable pub call_number : ℕ → List ℕ
call_number number = bytes "\" data-footnote-ref=\"\" aria-describedby=\"footnote-label\">" ++ decimal number ++ bytes "</a></sup>"

-- ---- a backreference

unfoldable pub back_href : (address : List ℕ) → ℕ → List ℕ
back_href address n = bytes "<a href=\"#user-content-fnref-" ++ address ++ again_text n

abbrev pub back_text : List ℕ
back_text = bytes "\" data-footnote-backref=\"\" aria-label=\"Back to content\" class=\"data-footnote-backref\">" ++ arrow

unfoldable pub back_end : ℕ → List ℕ
back_end n = back_text ++ sup_text n ++ bytes "</a>"

-- the nth, with a space before it where one comes before
unfoldable pub next_reference : (address : List ℕ) → ℕ → List ℕ
next_reference address n = if ltb 1 n then bytes " " ++ backreference address n else backreference address n
