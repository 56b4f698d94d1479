-- The build's answers, number and value of each (RULES R7.1), refusals 1 to 7, and what an answer leaves in the lent buffers. Assumes nothing.
use Rattle.std.specs.Prelude.{◌≡◌, List, ◌++◌, ℕ, ◌-◌, ltb, length, take, if◌then◌else◌, Result, Ok, Err}
use Rattle.lent.specs.Fill.{zeros}
use Rattle.regions.specs.Sizes.{work_size}
use Rattle.check_list.specs.declared.Refusal.TheVariants.{WrongLength}
use Rattle.check_list.specs.Checked as C
use Rattle.call_build_answer.specs.declared.Refusal.{Refusal}
use Rattle.call_build_answer.specs.declared.Refusal.TheVariants.{Checked, WorkFull, PageFull}

-- the page's length, or why there is none
abbrev pub Built : Type 0
Built = Result ℕ Refusal

-- the number: 0 for a page, else the refusal's
abbrev pub number_of : Built → ℕ
number_of (Ok n) = 0
number_of (Err (Checked c)) = C.number_of (Err c)
number_of (Err (WorkFull i)) = 8
number_of (Err (PageFull i)) = 9

-- the page's length, or the refusal's place
abbrev pub value_of : Built → ℕ
value_of (Ok n) = n
value_of (Err (Checked c)) = C.place_of (Err c)
value_of (Err (WorkFull i)) = i.0
value_of (Err (PageFull i)) = i.0

-- refusals 1 to 7: work of fewer than 49,152 bytes has a wrong length too
abbrev pub checked_of : (text events : List ℕ) → (work : ℕ) → C.Checked
checked_of text events work = if ltb work work_size then Err WrongLength else C.check_of text events

-- zeros from a place on
abbrev pub cleared_from : (from : ℕ) → List ℕ → List ℕ
cleared_from from d = take from d ++ zeros (length d - from)

-- the answer is b, the output's first n bytes stay with zeros behind them, and the work bytes are zero
pub record Leaves (b : Built) (n : ℕ) (out work out' work' : List ℕ) (r : Built) : Type 0 where
  pub answer : r ≡ b
  pub bytes : out' ≡ cleared_from n out
  pub cleared : work' ≡ zeros (length work)
