-- The sizes of the work bytes (RULES R8.1, R8.2), each in one place. Assumes nothing.
use Rattle.std.specs.Prelude.{ℕ}

-- a region: the captures, what is held, what is kept
abbrev pub region_size : ℕ
region_size = 16384

-- where the held bytes and the kept bytes start; the captures start at 0
abbrev pub held_at : ℕ
held_at = 16384

abbrev pub kept_at : ℕ
kept_at = 32768

-- all three
abbrev pub work_size : ℕ
work_size = 49152

-- an end that says that the bytes had no room in their region
abbrev pub no_room : ℕ
no_room = 16385
