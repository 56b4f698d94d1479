-- The call that replays a sync log: its answer and the answer's numbers. Assumes nothing.
use Rattle.std.specs.Prelude.{◌≡◌, List, ℕ, Result, Ok, Err}
use Rattle.bundle_read.specs.Read.{refusal_number, refusal_place}
use Rattle.bundle_block.specs.declared.Refusal.{Refusal}
use Rattle.replay_machine.specs.declared.Count.{Count}
use Rattle.replay_log.specs.Log.{Meaning, says, refused, replay_of}

-- the counts, or why the log is refused
abbrev pub Answer : Type 0
Answer = Result Count Refusal

abbrev pub answer_of : Meaning → Answer
answer_of (says shows differ first) = Ok (record { shows = shows; differ = differ; first = first })
answer_of (refused r) = Err r

-- the number: 0 for an answer, else the refusal's
abbrev pub number_of : Answer → ℕ
number_of (Ok c) = 0
number_of (Err r) = refusal_number r

-- the number of shows, or the refusal's place
abbrev pub value_of : Answer → ℕ
value_of (Ok c) = c.shows
value_of (Err r) = refusal_place r

abbrev pub differ_of : Answer → ℕ
differ_of (Ok c) = c.differ
differ_of (Err r) = 0

abbrev pub first_of : Answer → ℕ
first_of (Ok c) = c.first
first_of (Err r) = 0

-- RULES R7.2: the number, and the three numbers of the replay; or 10, 11, 12 with the block
abbrev pub Numbered : Meaning → Answer → Type 0
Numbered (says shows differ first) r = (number_of r ≡ 0) × (value_of r ≡ shows) × (differ_of r ≡ differ) × (first_of r ≡ first)
Numbered (refused c) r = (number_of r ≡ refusal_number c) × (value_of r ≡ refusal_place c)

-- a call on this log answered r
pub record HasReplayed (log : List ℕ) (r : Answer) : Type 0 where
  pub answer : r ≡ answer_of (replay_of log)
  pub numbers : Numbered (replay_of log) r
