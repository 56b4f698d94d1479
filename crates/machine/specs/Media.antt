-- Links, images and definitions: what is known of the newest, where it leads, what is written of it. Assumes nothing.
use Rattle.std.specs.Prelude.{Bool, true, false, ◌||◌, List, [], ◌∷◌, ◌++◌, ℕ, if◌then◌else◌, Some, None}
use Rattle.std.proofs.Math.Option.{Option, none, some}
use Rattle.std.proofs.Math.ListN.{get_elem?}
use Rattle.lent.specs.Bytes.{bytes}
use Rattle.normalize_identifier.specs.Search.{Found, first_same}
use Rattle.machine.specs.declared.Options.{Options}
use Rattle.machine.specs.Outcome.{Outcome, stop, go, ◌>>=◌, need}
use Rattle.machine.specs.State.{State, Span, Destination, no_destination, own, defined, Media, Definition}
use Rattle.machine.specs.Set.{set_media, set_label_id, set_label, set_reference_id, set_destination, set_title, set_flag, alt, add_definition}
use Rattle.machine.specs.Turn.{Turn, str_of, url_of}

-- ---- the newest medium

abbrev pub new_media : (image : Bool) → Media
new_media image = record { image = image; label_id = none; label = none; reference_id = none; destination = no_destination; title = none }

abbrev pub split_media : List Media → Outcome (Media × List Media)
split_media [] = stop
split_media (m ∷ ms) = go (m, ms)

-- the newest, and the others
unfoldable pub newest_media : State → Outcome (Media × List Media)
newest_media s = split_media s.media

unfoldable pub on_newest : (Media → Media) → State → Outcome State
on_newest f s = newest_media s >>= λ (m, ms). go (set_media (f m ∷ ms) s)

-- what was captured for it, and which slices name it
pub data Part : Type 0 where
  label destination title : Part

abbrev pub with_part : Part → List ℕ → Media → Media
with_part label b m = set_label b m
with_part destination b m = set_destination (own b) m
with_part title b m = set_title b m

pub data Id : Type 0 where
  label_id reference_id : Id

abbrev pub with_id : Id → Span → Media → Media
with_id label_id p m = set_label_id p m
with_id reference_id p m = set_reference_id p m

abbrev pub any_image : List Media → Bool
any_image [] = false
any_image (m ∷ ms) = m.image || any_image ms

-- whether another image is open around the newest medium
unfoldable pub leave_alt : State → Outcome State
leave_alt s = newest_media s >>= λ (m, ms). go (set_flag alt (any_image ms) s)

-- ---- where it leads

abbrev pub definition_labels : List Definition → List (List ℕ)
definition_labels [] = []
definition_labels (d ∷ ds) = d.label ∷ definition_labels ds

-- the label that is sought: the reference string, else the label text; with neither, none
abbrev pub label_of : Turn → (reference text : Option Span) → Outcome (Option (List ℕ))
label_of t (some p) text = str_of t.text p >>= λ b. go (some b)
label_of t none (some p) = str_of t.text p >>= λ b. go (some b)
label_of t none none = go none

abbrev pub defined_at : Found → Outcome Destination
defined_at (Some k) = go (defined k)
defined_at None = stop

-- RULES R9.9: its own, that of the first definition of its label, or none
abbrev pub destination_of : List Definition → Destination → Option (List ℕ) → Outcome Destination
destination_of ds no_destination (some b) = defined_at (first_same (definition_labels ds) b)
destination_of ds no_destination none = go no_destination
destination_of ds (own d) sought = go (own d)
destination_of ds (defined k) sought = go (defined k)

unfoldable pub seek : Turn → State → Outcome State
seek t s = do
  (m, ms) ← newest_media s
  sought ← label_of t m.reference_id m.label_id
  d ← destination_of s.kept.definitions m.destination sought
  on_newest (set_destination d) s

-- ---- what is written

abbrev pub or_none : Option (List ℕ) → (List ℕ → List ℕ) → List ℕ
or_none none f = []
or_none (some b) f = f b

abbrev pub title_text : List ℕ → List ℕ
title_text b = bytes " title=\"" ++ b ++ bytes "\""

abbrev pub destination_text : Options → (image : Bool) → List Definition → Destination → Outcome (List ℕ)
destination_text o image ds no_destination = go []
destination_text o image ds (own b) = go (url_of o image b)
destination_text o image ds (defined k) = need (get_elem? ds k) >>= λ d. go (or_none d.destination (url_of o image))

-- that of its definition, where it has one
abbrev pub title_of : List Definition → Destination → Option (List ℕ) → Outcome (Option (List ℕ))
title_of ds no_destination ours = go ours
title_of ds (own b) ours = go ours
title_of ds (defined k) ours = need (get_elem? ds k) >>= λ d. go d.title

unfoldable pub part_text : Part → Options → List Definition → Media → Outcome (List ℕ)
part_text label o ds m = need m.label
part_text destination o ds m = destination_text o m.image ds m.destination
part_text title o ds m = title_of ds m.destination m.title >>= λ b. go (or_none b title_text)

-- ---- definitions

abbrev pub own_of : Destination → Option (List ℕ)
own_of no_destination = none
own_of (own b) = some b
own_of (defined k) = none

unfoldable pub define : Turn → State → Outcome State
define t s = do
  (m, ms) ← newest_media s
  p ← need m.reference_id
  b ← str_of t.text p
  go (add_definition (record { label = b; destination = own_of m.destination; title = m.title }) (set_media ms s))
