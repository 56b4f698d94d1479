-- Refusal 5 (RULES R5): what the slice of an exit has to be. Assumes nothing.
use Rattle.std.specs.Prelude.{Bool, true, false, ◌&&◌, ◌||◌, List, [], ◌∷◌, ℕ, ◌-◌, eqb, length, take, drop, if◌then◌else◌, Option}
use Rattle.lent.specs.Bytes.{bytes, between, one_of, all, listed, is_digit}
use Rattle.event.specs.declared.Event.{Event}
use Rattle.event.specs.Event.{is_enter, events_of}
use Rattle.character_reference.specs.declared.Marker.{Marker}
use Rattle.character_reference.specs.declared.Marker.TheVariants.{Named, Decimal, Hexadecimal}
use Rattle.character_reference.specs.Reference.{reference_of, is_some}
use Rattle.check_slices.specs.declared.Seen.{Seen}
use Rattle.check_slices.specs.First.{first_from}

-- ---- the rules

-- LF, CR or CR LF
unfoldable pub is_ending : List ℕ → Bool
is_ending s = listed (bytes "\n" ∷ bytes "\r" ∷ bytes "\r\n" ∷ []) s

-- 1 to 9 digits
unfoldable pub is_item_value : List ℕ → Bool
is_item_value s = between 1 9 (length s) && all is_digit s

-- 1 to 6 bytes
abbrev pub is_level : List ℕ → Bool
is_level s = between 1 6 (length s)

-- starts with `-` or `=`
unfoldable pub is_underline : List ℕ → Bool
is_underline [] = false
is_underline (b ∷ s) = one_of (bytes "-=") b

-- ---- what stands before an event

-- at the start of a list: no 14, and no marker, for which 8 stands in
abbrev pub nothing_seen : Seen
nothing_seen = record { sequence = false; marker = Named }

abbrev pub with_sequence : Bool → Seen → Seen
with_sequence b seen = record { sequence = b; marker = seen.marker }

abbrev pub with_marker : Marker → Seen → Seen
with_marker m seen = record { sequence = seen.sequence; marker = m }

-- whether a 14 was left since the newest enter of 13, and the newest marker that was left.
-- In a list that nests (4 comes before 5) each 11 has an 8 before it in its own 7, and no other 7 lies between them, as neither
-- a marker nor an 11 holds one: so the newest marker is the last of its own 7. Nor does a 13 hold a 13
unfoldable pub seen_behind : Seen → Event → Seen
seen_behind seen e =
    if is_enter e then (if eqb e.name 13 then with_sequence false seen else seen)
    else (if eqb e.name 14 then with_sequence true seen
    else (if eqb e.name 8 then with_marker Named seen
    else (if eqb e.name 9 then with_marker Decimal seen
    else (if eqb e.name 10 then with_marker Hexadecimal seen
    else seen))))

-- ---- the answer

-- by the name of the exit
unfoldable pub slice_holds : Seen → (name : ℕ) → (slice : List ℕ) → Bool
slice_holds seen name s =
    if eqb name 3 then is_ending s
    else (if eqb name 4 then is_ending s
    else (if eqb name 26 then is_item_value s
    else (if eqb name 14 then seen.sequence || is_level s
    else (if eqb name 18 then is_underline s
    else (if eqb name 11 then is_some (reference_of seen.marker s)
    else true)))))

-- the bytes from..to; as many of them as there are
abbrev pub part : List ℕ → (from to : ℕ) → List ℕ
part text from to = take (to - from) (drop from text)

-- an enter has no slice
unfoldable pub event_holds : (text : List ℕ) → Seen → Event → Bool
event_holds text seen e = is_enter e || slice_holds seen e.name (part text e.from.0 e.to.0)

-- the first exit whose slice breaks its rule
unfoldable pub slices_of : (text events : List ℕ) → Option ℕ
slices_of text events = first_from (event_holds text) seen_behind 0 nothing_seen (events_of events)
