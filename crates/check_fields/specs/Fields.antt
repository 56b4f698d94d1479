-- Refusal 3 (RULES R4): at the first event a field of which breaks its rule. Assumes nothing.
use Rattle.std.specs.Prelude.{Bool, not, ◌&&◌, ◌||◌, List, ℕ, ◌+◌, ◌*◌, ◌/◌, ◌^◌, eqb, leb, length, if◌then◌else◌, Option}
use Rattle.lent.specs.Bytes.{between}
use Rattle.utf8.specs.Utf8.{inside}
use Rattle.event.specs.declared.Event.{Event}
use Rattle.event.specs.Event.{is_enter, columns_of, events_of}
use Rattle.check_fields.specs.First.{first_break}

-- ---- an enter

abbrev pub is_list : Event → Bool
is_list e = eqb e.name 21 || eqb e.name 22

abbrev pub is_table : Event → Bool
is_table e = eqb e.name 57

-- 1 loose, 0 tight
abbrev pub list_extra : Event → Bool
list_extra e = leb e.extra 1

-- 1 to 24 columns, and no bit set behind the last column's two
unfoldable pub table_extra : Event → Bool
table_extra e = between 1 24 (columns_of e) && eqb (e.extra / 2 ^ (8 + 2 * columns_of e)) 0

-- extra is 0 except on a list and on a table
unfoldable pub extra_holds : Event → Bool
extra_holds e = if is_list e then list_extra e else (if is_table e then table_extra e else eqb e.extra 0)

-- from, to, before and after are zero
unfoldable pub enter_holds : Event → Bool
enter_holds e = eqb e.from.0 0 && eqb e.to.0 0 && eqb e.before 0 && eqb e.after 0 && extra_holds e

-- ---- an exit

abbrev pub is_chunk : Event → Bool
is_chunk e = eqb e.name 32

-- virtual spaces: 0 to 3 before and after a code chunk, else zero
abbrev pub most_spaces : Event → ℕ
most_spaces e = if is_chunk e then 3 else 0

unfoldable pub spaces_hold : Event → Bool
spaces_hold e = leb e.before (most_spaces e) && leb e.after (most_spaces e)

-- from..to is a part of the text, cut inside no character
unfoldable pub slice_holds : List ℕ → Event → Bool
slice_holds text e =
    leb e.from.0 e.to.0 && leb e.to.0 (length text) && not (inside text e.from.0) && not (inside text e.to.0)

unfoldable pub exit_holds : List ℕ → Event → Bool
exit_holds text e = eqb e.extra 0 && spaces_hold e && slice_holds text e

-- ---- an event, and all of them

-- kind is 0 or 1, name is 0 to 65
abbrev pub is_known : Event → Bool
is_known e = leb e.kind 1 && leb e.name 65

unfoldable pub fields_hold : List ℕ → Event → Bool
fields_hold text e = is_known e && (if is_enter e then enter_holds e else exit_holds text e)

-- the pass over a text and its events: the first event that breaks a rule
unfoldable pub fields_of : (text events : List ℕ) → Option ℕ
fields_of text events = first_break (fields_hold text) 0 (events_of events)
