-- An event when its turn comes: what a handler may look at beside the state. Assumes nothing.
use Rattle.std.specs.Prelude.{Bool, true, false, not, ◌&&◌, ◌||◌, List, [], ◌∷◌, ℕ, zero, suc, ◌-◌, eqb, leb, length, take, drop, if◌then◌else◌}
use Rattle.std.proofs.Math.Option.{Option, none, some}
use Rattle.utf8.specs.Utf8.{is_utf8}
use Rattle.sanitize_uri.specs.Url.{sanitize_of}
use Rattle.sanitize_uri.specs.Protocols.{link_schemes, image_schemes, sanitize_with_protocols_of}
use Rattle.event.specs.declared.Event.{Event}
use Rattle.event.specs.Event.{is_enter, named}
use Rattle.machine.specs.declared.Options.{Options}
use Rattle.machine.specs.Outcome.{Outcome, stop, go, ◌>>=◌}
use Rattle.machine.specs.State.{Span}

pub record Turn : Type 0 where
  pub text : List ℕ
  pub options : Options
  pub event : Event
  pub place : ℕ
  pub before : List Event  -- the events before it, newest first
  pub last : Bool  -- whether it is the last of the list

-- an event that is no enter is an exit
abbrev pub is_exit : Event → Bool
is_exit e = not (is_enter e)

-- ---- slices: out of the text, or with a part of a character, the Rust panics

abbrev pub span_of : Event → Span
span_of e = record { from = e.from.0; to = e.to.0 }

unfoldable pub slice_of : (text : List ℕ) → Span → Outcome (List ℕ)
slice_of text p = if leb p.from p.to && leb p.to (length text) then go (take (p.to - p.from) (drop p.from text)) else stop

-- `from_utf8` and `as_str`
unfoldable pub as_str : List ℕ → Outcome (List ℕ)
as_str b = if is_utf8 b then go b else stop

unfoldable pub str_of : (text : List ℕ) → Span → Outcome (List ℕ)
str_of text p = slice_of text p >>= as_str

-- the event's own
abbrev pub own_str : Turn → Outcome (List ℕ)
own_str t = str_of t.text (span_of t.event)

-- ---- URLs, as the options say

unfoldable pub url_of : Options → (image : Bool) → List ℕ → List ℕ
url_of o image url =
    if o.allow_dangerous_protocol || (o.allow_any_img_src && image) then sanitize_of o.escape_apostrophes url
    else sanitize_with_protocols_of o.escape_apostrophes (if image then image_schemes else link_schemes) url

-- ---- the events before

-- events[index - 1]
abbrev pub just_before : List Event → Option Event
just_before [] = none
just_before (e ∷ es) = some e

-- events[index - 2], behind the event's own enter, is of a definition or footnote definition
abbrev pub is_after_definition : List Event → Bool
is_after_definition [] = false
is_after_definition (e ∷ []) = false
is_after_definition (e ∷ d ∷ ds) = named (53 ∷ 63 ∷ []) d

-- RULES R9.8: before </li> whole elements of six names are passed over. In d elements that are being skipped: whether it ends here,
abbrev pub ends_at : (d : ℕ) → Event → Bool
ends_at d e = eqb d 0 && not (is_exit e && named (1 ∷ 2 ∷ 3 ∷ 4 ∷ 53 ∷ 63 ∷ []) e)

-- and in how many it is behind an event: an exit goes into an element, an enter out of it
abbrev pub skipping : Bool → ℕ → ℕ
skipping true d = suc d
skipping false zero = zero
skipping false (suc d) = d

unfoldable pub look_back : (d : ℕ) → List Event → Option Event
look_back d [] = none
look_back d (e ∷ es) = elim (ends_at d e) [ true ↦ some e | false ↦ look_back (skipping (is_exit e) d) es ]
