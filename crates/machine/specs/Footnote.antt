-- Footnotes (RULES R9.15): a body kept, a call counted and written, the section at the end. Assumes nothing.
use Rattle.std.specs.Prelude.{Bool, true, false, ◌&&◌, List, [], ◌∷◌, ◌++◌, ℕ, zero, suc, ◌-◌, ltb, length, take, drop, if◌then◌else◌, Some, None}
use Rattle.std.proofs.Math.Option.{Option, none, some}
use Rattle.std.proofs.Math.ListN.{get_elem?}
use Rattle.lent.specs.Bytes.{bytes, same, mapped, lower}
use Rattle.sanitize_uri.specs.Url.{sanitize_of}
use Rattle.normalize_identifier.specs.Identity.{identity_of}
use Rattle.normalize_identifier.specs.Search.{Found, first_same}
use Rattle.machine.specs.Outcome.{Outcome, stop, go, ◌>>=◌, need}
use Rattle.machine.specs.State.{State, Span, Footnote, Call}
use Rattle.machine.specs.Set.{set_media, set_labels, add_footnote, set_calls}
use Rattle.machine.specs.Buffers.{◌▹◌, push, write, take_capture, is_eol, end_line, end_line_if_needed}
use Rattle.machine.specs.Turn.{Turn, as_str, str_of}
use Rattle.machine.specs.Text.{decimal}
use Rattle.machine.specs.Media.{newest_media}

-- a footnote's address: its identity, lower-cased, sanitized
unfoldable pub address_of : (apostrophes : Bool) → (label : List ℕ) → List ℕ
address_of apostrophes label = sanitize_of apostrophes (mapped lower (identity_of label))

-- ---- bodies

abbrev pub split_labels : List Span → Outcome (Span × List Span)
split_labels [] = stop
split_labels (p ∷ ps) = go (p, ps)

unfoldable pub keep : Turn → State → Outcome State
keep t s = do
  (body, u) ← take_capture s
  (p, ps) ← split_labels u.labels
  b ← str_of t.text p
  go (add_footnote (record { label = b; body = body }) (set_labels ps u))

-- ---- calls

abbrev pub call_labels : List Call → List (List ℕ)
call_labels [] = []
call_labels (c ∷ cs) = c.label ∷ call_labels cs

abbrev pub at_or : ℕ → Found → ℕ
at_or n (Some k) = k
at_or n None = n

-- see if this has been called before: the index of that call, or the one behind the last
abbrev pub call_index : List ℕ → List Call → ℕ
call_index label cs = at_or (length cs) (first_same (call_labels cs) label)

-- the call at an index is counted; a new one stands behind the last
unfoldable pub count_at : (index : ℕ) → (label : List ℕ) → List Call → List Call
count_at k label [] = record { label = label; times = 1 } ∷ []
count_at zero label (c ∷ cs) = record { label = c.label; times = suc c.times } ∷ cs
count_at (suc k) label (c ∷ cs) = c ∷ count_at k label cs

unfoldable pub times_at : (index : ℕ) → List Call → ℕ
times_at k [] = 0
times_at zero (c ∷ cs) = c.times
times_at (suc k) (c ∷ cs) = times_at k cs

-- nothing for the first time, then -2, -3, ..
abbrev pub again_text : (times : ℕ) → List ℕ
again_text times = if ltb 1 times then bytes "-" ++ decimal times else []

unfoldable pub call_text : (address : List ℕ) → (number times : ℕ) → List ℕ
call_text address number times =
    bytes "<sup><a href=\"#user-content-fn-" ++ address ++ bytes "\" id=\"user-content-fnref-" ++ address ++ again_text times
    ++ bytes "\" data-footnote-ref=\"\" aria-describedby=\"footnote-label\">" ++ decimal number ++ bytes "</a></sup>"

-- counted in an image's text too, but not written there
unfoldable pub call_note : Turn → State → Outcome State
call_note t s = do
  (m, ms) ← newest_media s
  p ← need m.label_id
  label ← str_of t.text p
  let index = call_index label s.kept.calls
  let calls = count_at index label s.kept.calls
  let u = s ▹ set_media ms ▹ set_calls calls
  go (if u.flags.alt then u else push (call_text (address_of s.fixed.apostrophes label) (suc index) (times_at index calls)) u)
