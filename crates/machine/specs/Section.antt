-- The footnote section, RULES R9.16 (generate_footnote_section, generate_footnote_item). Assumes nothing.
use Rattle.std.specs.Prelude.{Bool, true, false, ◌&&◌, List, [], ◌∷◌, ◌++◌, ℕ, zero, suc, ◌-◌, ltb, take, drop, if◌then◌else◌, Some, None}
use Rattle.std.proofs.Math.ListN.{get_elem?}
use Rattle.lent.specs.Bytes.{bytes, same}
use Rattle.normalize_identifier.specs.Search.{Found, first_same}
use Rattle.machine.specs.Outcome.{Outcome, stop, go, ◌>>=◌, need}
use Rattle.machine.specs.State.{State, Footnote, Call}
use Rattle.machine.specs.Buffers.{◌▹◌, push, write, is_eol, end_line, end_line_if_needed}
use Rattle.machine.specs.Turn.{as_str}
use Rattle.machine.specs.Text.{decimal}
use Rattle.machine.specs.Footnote.{address_of, again_text}

-- ---- a body

abbrev pub footnote_labels : List Footnote → List (List ℕ)
footnote_labels [] = []
footnote_labels (f ∷ fs) = f.label ∷ footnote_labels fs

abbrev pub footnote_at : List Footnote → Found → Outcome Footnote
footnote_at fs (Some k) = need (get_elem? fs k)
footnote_at fs None = stop

-- RULES R6.4: of those with one identity the one that ended first
abbrev pub body_of : List ℕ → List Footnote → Outcome (List ℕ)
body_of label fs = footnote_at fs (first_same (footnote_labels fs) label) >>= λ f. go f.body

abbrev pub end_behind : ℕ → (rest : ℕ) → ℕ
end_behind b zero = if is_eol b then 0 else 1
end_behind b (suc n) = suc (suc n)

-- move back past line endings: how many bytes stand before those at the end
unfoldable pub body_end : List ℕ → ℕ
body_end [] = 0
body_end (b ∷ bs) = end_behind b (body_end bs)

-- check if it ends in </p>
unfoldable pub ends_paragraph : List ℕ → Bool
ends_paragraph body = ltb 3 (body_end body) && same (take 4 (drop (body_end body - 4) body)) (bytes "</p>")

-- ---- backreferences

-- U+21A9
abbrev pub arrow : List ℕ
arrow = 0xE2 ∷ 0x86 ∷ 0xA9 ∷ []

abbrev pub sup_text : ℕ → List ℕ
sup_text n = if ltb 1 n then bytes "<sup>" ++ decimal n ++ bytes "</sup>" else []

unfoldable pub backreference : (address : List ℕ) → ℕ → List ℕ
backreference address n =
    bytes "<a href=\"#user-content-fnref-" ++ address ++ again_text n
    ++ bytes "\" data-footnote-backref=\"\" aria-label=\"Back to content\" class=\"data-footnote-backref\">" ++ arrow ++ sup_text n ++ bytes "</a>"

-- one for each call, with a space between two
unfoldable pub backreferences : (address : List ℕ) → (times : ℕ) → List ℕ
backreferences address zero = []
backreferences address (suc zero) = backreference address 1
backreferences address (suc (suc n)) = backreferences address (suc n) ++ bytes " " ++ backreference address (suc (suc n))

-- ---- the section

-- the backreferences go into a paragraph at the end, or behind the body
unfoldable pub push_body : (body back : List ℕ) → State → Outcome State
push_body body back s =
    elim (ends_paragraph body) [
      | true ↦ as_str (take (body_end body - 4) body) >>= λ before. as_str (drop (body_end body - 4) body) >>= λ after. go (push (before ++ bytes " " ++ back ++ after) s)
      | false ↦ go (s ▹ push body ▹ end_line_if_needed ▹ push back)
    ]

unfoldable pub footnote_item : Call → State → Outcome State
footnote_item c s = do
  let address = address_of s.fixed.apostrophes c.label
  body ← body_of c.label s.kept.footnotes
  let opened = s ▹ end_line ▹ write "<li id=\"user-content-fn-" ▹ push address ▹ write "\">" ▹ end_line
  u ← push_body body (backreferences address c.times) opened
  go (u ▹ end_line_if_needed ▹ write "</li>")

unfoldable pub footnote_items : List Call → State → Outcome State
footnote_items [] s = go s
footnote_items (c ∷ cs) s = footnote_item c s >>= λ u. footnote_items cs u

unfoldable pub footnote_section : State → Outcome State
footnote_section s = do
  let heading = write "<section data-footnotes=\"\" class=\"footnotes\"><h2 id=\"footnote-label\" class=\"sr-only\">Footnotes</h2>"
  u ← footnote_items s.kept.calls (s ▹ end_line_if_needed ▹ heading ▹ end_line ▹ write "<ol>")
  go (u ▹ end_line ▹ write "</ol>" ▹ end_line ▹ write "</section>" ▹ end_line)
