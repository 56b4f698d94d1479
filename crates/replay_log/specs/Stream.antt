-- A log as it comes, whole blocks at a time: what is known behind some bytes of it. For the call nobody has to read this. Assumes nothing.
use Rattle.std.specs.Prelude.{◌≡◌, true, false, List, [], ◌++◌, ℕ, ◌+◌, ◌*◌, ◌/◌, ◌≤◌, ◌<◌, T, length, Result, Ok, Err}
use Rattle.lent.specs.Fill.{zeros}
use Rattle.bundle_block.specs.declared.Refusal.{Refusal}
use Rattle.bundle_block.specs.declared.Refusal.TheVariants.{Broken}
use Rattle.bundle_block.specs.Block.{edition_in}
use Rattle.replay_record.specs.Record.{note_count}
use Rattle.replay_machine.specs.declared.Count.{Count}
use Rattle.replay_machine.specs.declared.Tally.{Tally}
use Rattle.replay_machine.specs.Machine.{nothing, start}
use Rattle.replay_machine.specs.Records.{state_of, Few}
use Rattle.replay_log.specs.declared.Place.{Place}
use Rattle.replay_log.specs.declared.Reader.{Reader}
use Rattle.replay_log.specs.declared.Reader.TheVariants.{Empty, Going, Stopped}
use Rattle.replay_log.specs.Log.{Course, reads, stops, take_block, take_blocks, replay_of}
use Rattle.replay_log.specs.Call.{Answer, answer_of}

abbrev pub course_by : Result Tally Refusal → (staged current : List ℕ) → Course
course_by (Ok t) staged current = reads t.ended (state_of t.count staged current)
course_by (Err r) staged current = stops r

-- behind so many blocks: no log has more than 65,536 of them, and no block more than 31 records
pub record Within (n : ℕ) (c : Count) : Type 0 where
  pub blocks : n ≤ 65536
  pub few : Few (31 * n) c

abbrev pub WithinBy : (n : ℕ) → Result Tally Refusal → Type 0
WithinBy n (Ok t) = Within n t.count
WithinBy n (Err r) = T true

pub record TookBlock (edition index : ℕ) (t : Tally) (staged current b staged' current' : List ℕ) (r : Result Tally Refusal) : Type 0 where
  pub course : course_by r staged' current' ≡ take_block edition index t.ended (state_of t.count staged current) b
  pub within : WithinBy (index + 1) r

pub record TookBlocks (edition index : ℕ) (t : Tally) (staged current l staged' current' : List ℕ) (r : Result Tally Refusal) : Type 0 where
  pub course : course_by r staged' current' ≡ take_blocks edition index (length l / 512) t.ended (state_of t.count staged current) l
  pub within : WithinBy (index + length l / 512) r

-- ---- behind the bytes p of a log

-- before block 0 of the bytes l
abbrev pub first_place : List ℕ → Place
first_place l = record { edition = edition_in l; block = 0; tally = record { count = nothing; ended = false } }

pub record GoingBehind (p staged current : List ℕ) (g : Place) : Type 0 where
  pub long : length p ≡ 512 * g.block
  pub some : 0 < g.block
  pub edition : g.edition ≡ edition_in p
  pub course : take_blocks (edition_in p) 0 g.block false start p ≡ reads g.tally.ended (state_of g.tally.count staged current)

pub record StoppedBehind (p : List ℕ) (r : Refusal) : Type 0 where
  pub blocks : ℕ
  pub long : length p ≡ 512 * blocks
  pub some : 0 < blocks
  pub course : take_blocks (edition_in p) 0 blocks false start p ≡ stops r

pub record EmptyBehind (p staged current : List ℕ) : Type 0 where
  pub none : p ≡ []
  pub unstaged : staged ≡ zeros note_count
  pub unset : current ≡ zeros note_count

abbrev pub Behind : (p staged current : List ℕ) → Reader → Type 0
Behind p staged current Empty = EmptyBehind p staged current
Behind p staged current (Going g) = GoingBehind p staged current g
Behind p staged current (Stopped r) = StoppedBehind p r

abbrev pub Steady : Reader → Type 0
Steady Empty = T true
Steady (Going g) = Within g.block g.tally.count
Steady (Stopped r) = T true

-- blocks l behind the place g
pub record Gone (g : Place) (staged current l staged' current' : List ℕ) (r : Reader) : Type 0 where
  pub behind : (p : List ℕ) → length p ≡ 512 * g.block → 0 < g.block + length l / 512 → g.edition ≡ edition_in (p ++ l)
      → take_blocks g.edition 0 g.block false start p ≡ reads g.tally.ended (state_of g.tally.count staged current) → Behind (p ++ l) staged' current' r
  pub steady : Steady r

pub record Took (r : Reader) (staged current l staged' current' : List ℕ) (r' : Reader) : Type 0 where
  pub behind : (p : List ℕ) → Behind p staged current r → Behind (p ++ l) staged' current' r'
  pub steady : Steady r'

-- what is known at the end, where a log without a block is refused
abbrev pub answer_by : Reader → Answer
answer_by Empty = Err (Broken 0)
answer_by (Going g) = Ok g.tally.count
answer_by (Stopped r) = Err r

-- the bytes l are the rest of the log
pub record Finished (r : Reader) (staged current l : List ℕ) (a : Answer) : Type 0 where
  pub replayed : (p : List ℕ) → Behind p staged current r → a ≡ answer_of (replay_of (p ++ l))
