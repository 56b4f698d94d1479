-- The plain machine of a sync log (RULES R21.4): what is staged and what is current for each note, and what the shows come to. Assumes nothing.
use Rattle.std.specs.Prelude.{Bool, List, [], ◌∷◌, ℕ, ◌+◌, eqb, set, get_or, if◌then◌else◌}
use Rattle.lent.specs.Fill.{zeros}
use Rattle.replay_record.specs.declared.Action.{Action}
use Rattle.replay_record.specs.declared.Action.TheVariants.{Stage, Swap, Show}
use Rattle.replay_record.specs.Record.{note_count}
use Rattle.replay_machine.specs.declared.Count.{Count}

-- an edition for each note, staged and current, 0 where there is none yet; and the counts
pub record State : Type 0 where
  pub staged : List ℕ
  pub current : List ℕ
  pub count : Count

-- before the first record
abbrev pub nothing : Count
nothing = record { shows = 0; differ = 0; first = 0 }

abbrev pub start : State
start = record { staged = zeros note_count; current = zeros note_count; count = nothing }

-- a record more before the first that differs: none is counted from that one on
abbrev pub counted : Count → Count
counted c = record c { first = if eqb c.differ 0 then c.first + 1 else c.first }

-- a show more, of the edition that is current or of another
abbrev pub showed : (right : Bool) → Count → Count
showed right c = record c { shows = c.shows + 1; differ = if right then c.differ else c.differ + 1 }

-- a stage replaces what was staged
abbrev pub stage : (note edition : ℕ) → State → State
stage note edition s = record s { staged = set s.staged note edition }

-- a swap makes current what is staged, and clears the stage; where nothing is staged it changes nothing
abbrev pub swap : (note : ℕ) → State → State
swap note s =
    if eqb (get_or s.staged note 0) 0 then s
    else record s { staged = set s.staged note 0; current = set s.current note (get_or s.staged note 0) }

-- a show changes no edition
abbrev pub show : (note edition : ℕ) → State → State
show note edition s = record s { count = showed (eqb (get_or s.current note 0) edition) s.count }

abbrev pub does : Action → State → State
does (Stage note edition) s = stage note edition s
does (Swap note) s = swap note s
does (Show note edition) s = show note edition s

-- a record
unfoldable pub act : Action → State → State
act a s = record { staged = (does a s).staged; current = (does a s).current; count = counted (does a s).count }

-- records, one by one
unfoldable pub run : List Action → State → State
run [] s = s
run (a ∷ more) s = run more (act a s)
