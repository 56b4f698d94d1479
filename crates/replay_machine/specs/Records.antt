-- The machine over a log's records as they stand in its bytes (RULES R21.3, R21.5). Assumes nothing.
use Rattle.std.specs.Prelude.{Bool, true, false, List, ℕ, zero, suc, ◌≤◌, take, drop, Option, Some, None}
use Rattle.replay_record.specs.declared.Record.{Record}
use Rattle.replay_record.specs.declared.Record.TheVariants.{Does, End, Faulty}
use Rattle.replay_record.specs.Record.{record_of}
use Rattle.replay_machine.specs.declared.Count.{Count}
use Rattle.replay_machine.specs.declared.Tally.{Tally}
use Rattle.replay_machine.specs.Machine.{State, act}

abbrev pub record_size : ℕ
record_size = 16

-- how far the records have come: the machine, and whether the zeros have begun; or a record broke a rule
pub data Came : Type 0 where
  goes : (ended : Bool) → State → Came
  broken : Came

infixl 4 ◌then◌
abbrev pub ◌then◌ : Came → (Bool → State → Came) → Came
(goes ended s) then f = f ended s
broken then f = broken

-- behind the first zero record only zero records stand
abbrev pub takes : Record → (ended : Bool) → State → Came
takes (Does a) false s = goes false (act a s)
takes (Does a) true s = broken
takes End ended s = goes true s
takes Faulty ended s = broken

-- so many records, from the front of the bytes
unfoldable pub take_records : ℕ → (ended : Bool) → State → List ℕ → Came
take_records zero ended s l = goes ended s
take_records (suc n) ended s l = takes (record_of (take record_size l)) ended s then λ ended' s'. take_records n ended' s' (drop record_size l)

-- ---- said for the functions

-- a tally and the two tables are a state
abbrev pub state_of : Count → (staged current : List ℕ) → State
state_of c staged current = record { staged = staged; current = current; count = c }

abbrev pub came_by : Option Tally → (staged current : List ℕ) → Came
came_by (Some t) staged current = goes t.ended (state_of t.count staged current)
came_by None staged current = broken

-- no number is above n
pub record Few (n : ℕ) (c : Count) : Type 0 where
  pub shows : c.shows ≤ n
  pub differ : c.differ ≤ n
  pub first : c.first ≤ n
