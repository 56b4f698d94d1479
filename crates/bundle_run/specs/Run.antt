-- A run of blocks (RULES R15.3): of one kind, numbered one by one, none with more than its room; written, judged and read. Assumes nothing.
use Rattle.std.specs.Prelude.{List, [], ◌++◌, ℕ, zero, suc, ◌+◌, ◌-◌, min, take, drop, Ok}
use Rattle.bundle_block.specs.Block.{block_of, Verdict, ◌before◌, judge_block}

-- a run of so many blocks of one kind, numbered from block on, each with up to room bytes of what is given
unfoldable pub run_of : (edition kind room block : ℕ) → ℕ → List ℕ → List ℕ
run_of edition kind room block zero given = []
run_of edition kind room block (suc n) given = block_of edition block kind (take room given) ++ run_of edition kind room (block + 1) n (drop room given)

-- the verdict on a run of so many blocks, in which so many bytes are used
unfoldable pub judge_run : (edition kind room block : ℕ) → ℕ → (used : ℕ) → List ℕ → Verdict
judge_run edition kind room block zero used blocks = Ok tt
judge_run edition kind room block (suc n) used blocks =
    judge_block edition block kind (min room used) (take 512 blocks)
    before judge_run edition kind room (block + 1) n (used - room) (drop 512 blocks)

-- what the run holds: of each block the payload, from place 8 on, as far as it is used
unfoldable pub held_in : (room : ℕ) → ℕ → (used : ℕ) → List ℕ → List ℕ
held_in room zero used blocks = []
held_in room (suc n) used blocks = take (min room used) (drop 8 blocks) ++ held_in room n (used - room) (drop 512 blocks)
