-- Records worked by hand. Assumes nothing.
use Rattle.std.proofs.Common.{◌≡◌, refl, List, [], ◌∷◌, ◌++◌, ℕ}
use Rattle.little.specs.Little.{little, number}
use Rattle.event.specs.declared.Event.{Event}
use Rattle.event.specs.Event.{event_of, events_of, events_in, record_of, alignments_from, alignments_of}

-- exit 3 (1..2), the last event of RULES R19.2
line_ending : List ℕ
line_ending = 1 ∷ 3 ∷ 0 ∷ 0 ∷ 1 ∷ 0 ∷ 0 ∷ 0 ∷ 2 ∷ 0 ∷ 0 ∷ 0 ∷ 0 ∷ 0 ∷ 0 ∷ 0 ∷ 0 ∷ 0 ∷ 0 ∷ 0 ∷ []

exit-3 : Event
exit-3 = record { kind = 1; name = 3; before = 0; after = 0; from = record { 0 = 1 }; to = record { 0 = 2 }; extra = 0 }

read-exit : event_of line_ending ≡ exit-3
unfolding event_of number line_ending exit-3
read-exit = refl

packed-exit : record_of exit-3 ≡ line_ending
unfolding record_of little line_ending exit-3
packed-exit = refl

-- bytes behind the last whole record are none of an event
cut_short : events_of (line_ending ++ 1 ∷ 3 ∷ []) ≡ exit-3 ∷ []
unfolding events_of events_in event_of number line_ending exit-3
cut_short = refl

-- the enter of a table of four columns: none, left, right, center, that is 11 10 01 00 from bit 8 on
table : Event
table = record { kind = 0; name = 57; before = 0; after = 0; from = record { 0 = 0 }; to = record { 0 = 0 }; extra = 0b11100100_00000100 }

table-columns : alignments_of table ≡ 0 ∷ 1 ∷ 2 ∷ 3 ∷ []
unfolding alignments_of alignments_from table
table-columns = refl
