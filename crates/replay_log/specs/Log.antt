-- A sync log (RULES R21): blocks of records, judged in order and replayed record by record. Assumes nothing.
use Rattle.std.specs.Prelude.{Bool, false, List, ℕ, zero, suc, ◌+◌, ◌*◌, ◌/◌, length, take, drop, Ok, Err}
use Rattle.bundle_block.specs.declared.Refusal.{Refusal}
use Rattle.bundle_block.specs.declared.Refusal.TheVariants.{Broken}
use Rattle.bundle_block.specs.Block.{Verdict, edition_in, payload_in, judge_block}
use Rattle.bundle_read.specs.Bundle.{judge_length}
use Rattle.replay_machine.specs.Machine.{State, start}
use Rattle.replay_machine.specs.Records.{record_size, Came, goes, broken, take_records}

-- every block of a log is of one kind, and holds so many records; no other byte of its payload is used
abbrev pub log_kind : ℕ
log_kind = 4

abbrev pub records_per_block : ℕ
records_per_block = 31

abbrev pub log_used : ℕ
log_used = records_per_block * record_size

-- how far the blocks have come: the machine, and whether the zeros have begun; or the first refusal
pub data Course : Type 0 where
  reads : (ended : Bool) → State → Course
  stops : Refusal → Course

abbrev pub unless : Verdict → Course → Course
unless (Ok o) c = c
unless (Err r) c = stops r

-- 10 for a record that breaks a rule
abbrev pub in_block : (block : ℕ) → Came → Course
in_block block (goes ended s) = reads ended s
in_block block broken = stops (Broken block)

-- a block: 11, 12 and 10 as for a bundle's, then its records
unfoldable pub take_block : (edition block : ℕ) (ended : Bool) → State → List ℕ → Course
take_block edition block ended s b = unless (judge_block edition block log_kind log_used b) (in_block block (take_records records_per_block ended s (payload_in b)))

infixl 4 ◌next◌
abbrev pub ◌next◌ : Course → (Bool → State → Course) → Course
(reads ended s) next f = f ended s
(stops r) next f = stops r

-- so many blocks, numbered from block on
unfoldable pub take_blocks : (edition block : ℕ) → ℕ → (ended : Bool) → State → List ℕ → Course
take_blocks edition block zero ended s l = reads ended s
take_blocks edition block (suc n) ended s l = take_block edition block ended s (take 512 l) next λ ended' s'. take_blocks edition (block + 1) n ended' s' (drop 512 l)

-- all blocks of a log, held to the edition of block 0
abbrev pub course_of : List ℕ → Course
course_of log = take_blocks (edition_in log) 0 (length log / 512) false start log

-- what a log says: how many shows there were, how many differ, and how many records stand before the first that does, or before the zeros if none does; or why it is refused
pub data Meaning : Type 0 where
  says : (shows differ first : ℕ) → Meaning
  refused : Refusal → Meaning

abbrev pub meant_by : Course → Meaning
meant_by (reads ended s) = says s.count.shows s.count.differ s.count.first
meant_by (stops r) = refused r

abbrev pub after_length : Verdict → Meaning → Meaning
after_length (Ok o) m = m
after_length (Err r) m = refused r

-- the length comes before all
unfoldable pub replay_of : List ℕ → Meaning
replay_of log = after_length (judge_length log) (meant_by (course_of log))
