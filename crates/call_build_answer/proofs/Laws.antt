-- Which of refusals 1 to 7 it is, and what clearing leaves. Assumes nothing.
use Rattle.std.proofs.Common.{Result, Ok, Err, if◌then◌else◌, ◌≡◌, refl, sym, ◌∙◌, Bool, true, false, List, ℕ, ◌-◌, ◌≤◌, ◌<◌, arith, lt-ltb, le-ltb, ltb-false, ltb, length}
use Rattle.lent.specs.Fill.{zeros}
use Rattle.regions.specs.Sizes.{work_size}
use Rattle.check_list.specs.declared.Refusal.TheVariants.{WrongLength}
use Rattle.check_list.specs.Checked.{Checked, check_of, Checks}
use Rattle.event.specs.declared.EventIndex.{EventIndex}
use Rattle.run_answer.specs.declared.Full.{Full}
use Rattle.run_answer.specs.declared.Full.TheVariants as F
use Rattle.call_build_answer.specs.declared.Refusal.TheVariants.{WorkFull, PageFull}
use Rattle.call_build_answer.specs.Built.{Built, checked_of, cleared_from, Leaves}
use Rattle.call_build_answer.specs.Rendered.{built_of, kept_of}
use Rattle.call_build_answer.specs.Private.{Clears}

-- ---- refusals 1 to 7

module _ (text events : List ℕ) (work : ℕ) where
  pub short-work : work < work_size → Err WrongLength ≡ checked_of text events work
  short-work h = rw (lt-ltb work work_size h)

  pub by-checker : {c : Checked} → work_size ≤ work → Checks text events c → c ≡ checked_of text events work
  by-checker h p = p.answer ∙ rw (le-ltb work work_size h)

  pub passed : checked_of text events work ≡ Ok tt → (work_size ≤ work) × (check_of text events ≡ Ok tt)
  passed p = on (ltb work work_size) refl p
    where
      on : (x : Bool) → ltb work work_size ≡ x → (if x then Err WrongLength else check_of text events) ≡ Ok tt → (work_size ≤ work) × (check_of text events ≡ Ok tt)
      on true e p = cc
      on false e p = (ltb-false work work_size e, p)

pub enough : (text events work : List ℕ) {c : Checked} → c ≡ checked_of text events (length work) → c ≡ Ok tt → work_size ≤ length work
enough text events work p q = (passed text events (length work) (sym p ∙ q)).0

-- ---- what is left

pub wiped : (d : List ℕ) → cleared_from 0 d ≡ zeros (length d)
wiped d = let y : length d - 0 ≡ length d = omega arith in rw y

pub clears : {from : ℕ} {out work out' work' : List ℕ} → out' ≡ cleared_from from out → work' ≡ zeros (length work) → Clears from out work out' work'
clears p q = record { bytes = p; cleared = q }

-- ---- the run's answer

module _ {r : Result ℕ Full} {s : Built} {out work out' work' : List ℕ} where
  pub with-page : (n : ℕ) → r ≡ Ok n → Leaves (Ok n) n out work out' work' s → Leaves (built_of r) (kept_of r) out work out' work' s
  with-page n e f = rw e f

  pub no-work : (i : EventIndex) → r ≡ Err (F.Work i) → Leaves (Err (WorkFull i)) 0 out work out' work' s → Leaves (built_of r) (kept_of r) out work out' work' s
  no-work i e f = rw e f

  pub no_room_lem : (i : EventIndex) → r ≡ Err (F.Page i) → Leaves (Err (PageFull i)) 0 out work out' work' s → Leaves (built_of r) (kept_of r) out work out' work' s
  no_room_lem i e f = rw e f
