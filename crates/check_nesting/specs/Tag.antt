-- What the pass for 4 sees of an event: enter or exit, and the name. Assumes nothing.
use Rattle.std.specs.Prelude.{List, [], ◌∷◌, ℕ, zero, suc, ◌-◌, eqb, drop, get_or, if◌then◌else◌}
use Rattle.event.specs.Event.{record_size, count_of}

pub data Tag : Type 0 where
  enter exit : ℕ → Tag

-- kind 0 is an enter, any other an exit
abbrev pub tag_of : ℕ → ℕ → Tag
tag_of kind name = if eqb kind 0 then enter name else exit name

-- of the first n records
abbrev pub tags : ℕ → List ℕ → List Tag
tags zero b = []
tags (suc n) b = tag_of (get_or b 0 0) (get_or b 1 0) ∷ tags n (drop record_size b)

-- of all whole records
abbrev pub tags_of : List ℕ → List Tag
tags_of b = tags (count_of b) b

-- how many are open behind the tags, d before them
abbrev pub open_behind : ℕ → List Tag → ℕ
open_behind d [] = d
open_behind d (enter n ∷ ts) = open_behind (suc d) ts
open_behind d (exit n ∷ ts) = open_behind (d - 1) ts
