-- What is said of a log's actions: which they are, which shows are right, and which notes are swapped. Assumes nothing.
use Rattle.std.specs.Prelude.{◌≡◌, true, List, [], ◌∷◌, ◌++◌, ℕ, zero, suc, T, length, take, drop, get_or}
use Rattle.bundle_block.specs.Block.{payload_in}
use Rattle.replay_record.specs.declared.Action.{Action}
use Rattle.replay_record.specs.declared.Action.TheVariants.{Stage, Swap, Show}
use Rattle.replay_record.specs.declared.Record.{Record}
use Rattle.replay_record.specs.declared.Record.TheVariants.{Does, End, Faulty}
use Rattle.replay_record.specs.Record.{record_of}
use Rattle.replay_machine.specs.Machine.{State, act}
use Rattle.replay_machine.specs.Records.{record_size}
use Rattle.replay_log.specs.Log.{records_per_block}

-- the actions of so many records, up to the first zero record
abbrev pub before : Record → List Action → List Action
before (Does a) more = a ∷ more
before End more = []
before Faulty more = []

unfoldable pub actions_in : ℕ → List ℕ → List Action
actions_in zero l = []
actions_in (suc n) l = before (record_of (take record_size l)) (actions_in n (drop record_size l))

-- those of so many blocks
unfoldable pub actions_of : ℕ → List ℕ → List Action
actions_of zero l = []
actions_of (suc n) l = actions_in records_per_block (payload_in (take 512 l)) ++ actions_of n (drop 512 l)

-- a show carries the edition that is current
abbrev pub RightNow : Action → State → Type 0
RightNow (Stage note edition) s = T true
RightNow (Swap note) s = T true
RightNow (Show note edition) s = get_or s.current note 0 ≡ edition

-- every show does, at its time
abbrev pub Right : List Action → State → Type 0
Right [] s = T true
Right (a ∷ more) s = RightNow a s × Right more (act a s)

-- none of them swaps this note
abbrev pub SwapsNot : ℕ → Action → Type 0
SwapsNot note (Stage n edition) = T true
SwapsNot note (Swap n) = n ≡ note → ⊥
SwapsNot note (Show n edition) = T true

abbrev pub Unswapped : ℕ → List Action → Type 0
Unswapped note [] = T true
Unswapped note (a ∷ more) = SwapsNot note a × Unswapped note more

-- two states in which a show of any note is judged alike, now and as long as this note is not swapped
pub record Alike (note : ℕ) (s t : State) : Type 0 where
  pub current : s.current ≡ t.current
  pub shows : s.count.shows ≡ t.count.shows
  pub differ : s.count.differ ≡ t.count.differ
  pub long : length s.staged ≡ length t.staged
  pub staged : (k : ℕ) → (k ≡ note → ⊥) → get_or s.staged k 0 ≡ get_or t.staged k 0
