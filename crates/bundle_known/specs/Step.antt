-- What the functions answer, in the words of the definitions. Assumes nothing.
use Rattle.std.specs.Prelude.{◌≡◌, List, ℕ, ◌*◌, ◌≤◌, length, drop, Result, Ok, Err}
use Rattle.bundle_block.specs.declared.Refusal.{Refusal}
use Rattle.bundle_known.specs.declared.Known.{Known}
use Rattle.bundle_known.specs.declared.Step.{Step}
use Rattle.bundle_known.specs.declared.Run.{Run}
use Rattle.bundle_known.specs.Known.{Came, goes, stops, taken, came_then, judge_taken, fill_taken, events_of, runs_of, advance_of}

-- what a step says of the bytes l, the buffers holding t and e
abbrev pub came_by : Result Step Refusal → (t e l : List ℕ) → Came
came_by (Ok s) t e l = goes s.known t e (drop s.taken l)
came_by (Err r) t e l = stops r

-- no more bytes are taken than there are
abbrev pub took_of : Result Step Refusal → ℕ
took_of (Ok s) = s.taken
took_of (Err r) = 0

-- what is known as k, and the buffers t and e, went on by the bytes l to the step r and the buffers t' and e'
pub record Advanced (k : Known) (t e l t' e' : List ℕ) (r : Result Step Refusal) : Type 0 where
  pub came : came_by r t' e' l ≡ advance_of k t e l
  pub within : took_of r ≤ length l

-- ---- said for the inner functions, no part of a promise

pub record RanAll (k : Known) (from : ℕ) (t e l t' e' : List ℕ) (r : Result Step Refusal) : Type 0 where
  pub came : came_by r t' e' l ≡ runs_of k t e (drop from l)
  pub within : took_of r ≤ length l

pub record RanEvents (k : Known) (from : ℕ) (e l e' : List ℕ) (r : Result Step Refusal) : Type 0 where
  pub came : (t : List ℕ) → came_by r t e' l ≡ events_of k t e (drop from l)
  pub within : took_of r ≤ length l

pub record RanGood (edition kind index before total : ℕ) (d l e : List ℕ) (c n : ℕ) : Type 0 where
  pub judged : judge_taken edition kind index before total l ≡ Ok tt
  pub came : c ≡ came_then before total l
  pub took : n ≡ 512 * taken before total l
  pub filled : e ≡ fill_taken before total d l

abbrev pub Ran : (edition kind index before total : ℕ) (d l e : List ℕ) → Result Run Refusal → Type 0
Ran edition kind index before total d l e (Ok r) = RanGood edition kind index before total d l e r.came r.taken
Ran edition kind index before total d l e (Err r) = judge_taken edition kind index before total l ≡ Err r
