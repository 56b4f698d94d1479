-- A record of a sync log (RULES R21.3): 16 bytes, little endian. Assumes nothing.
use Rattle.std.specs.Prelude.{Bool, ◌&&◌, List, ℕ, eqb, ltb, drop, if◌then◌else◌}
use Rattle.lent.specs.Bytes.{all}
use Rattle.bundle_block.specs.Block.{field, is_zero}
use Rattle.replay_record.specs.declared.Action.TheVariants.{Stage, Swap, Show}
use Rattle.replay_record.specs.declared.Record.{Record}
use Rattle.replay_record.specs.declared.Record.TheVariants.{Does, End, Faulty}

-- its fields: action u8, a zero byte, note u16, edition u32, eight zeros
abbrev pub action_in : List ℕ → ℕ
action_in r = field 0 1 r

abbrev pub zero_in : List ℕ → ℕ
zero_in r = field 1 1 r

abbrev pub note_in : List ℕ → ℕ
note_in r = field 2 2 r

abbrev pub edition_in : List ℕ → ℕ
edition_in r = field 4 4 r

abbrev pub zeros_in : List ℕ → List ℕ
zeros_in r = drop 8 r

-- the notes are 0 to 255
abbrev pub note_count : ℕ
note_count = 256

-- whatever the action
abbrev pub is_plain : List ℕ → Bool
is_plain r = eqb (zero_in r) 0 && ltb (note_in r) note_count && all is_zero (zeros_in r)

-- 0: the records end before this one, which is zero
abbrev pub end_of : (note edition : ℕ) → Record
end_of note edition = if eqb note 0 && eqb edition 0 then End else Faulty

-- 1: an edition is staged, which is not 0
abbrev pub stage_of : (note edition : ℕ) → Record
stage_of note edition = if eqb edition 0 then Faulty else Does (Stage note edition)

-- 2: a swap, which carries edition 0
abbrev pub swap_of : (note edition : ℕ) → Record
swap_of note edition = if eqb edition 0 then Does (Swap note) else Faulty

-- 3: a show, of any edition; there is no other action
unfoldable pub act_of : (action note edition : ℕ) → Record
act_of action note edition =
    if eqb action 0 then end_of note edition
    else (if eqb action 1 then stage_of note edition
    else (if eqb action 2 then swap_of note edition
    else (if eqb action 3 then Does (Show note edition)
    else Faulty)))

unfoldable pub record_of : List ℕ → Record
record_of r = if is_plain r then act_of (action_in r) (note_in r) (edition_in r) else Faulty
