-- What the inner functions answer: no part of a promise. Assumes nothing.
use Rattle.std.specs.Prelude.{◌≡◌, Bool, false, not, ◌&&◌, List, [], ◌∷◌, ◌++◌, ℕ, ◌+◌, ◌-◌, ◌≤◌, eqb, length, take, drop, if◌then◌else◌}
use Rattle.lent.specs.Bytes.{all}
use Rattle.lent.specs.Fill.{past, Filled}
use Rattle.machine.specs.Buffers.{last_or}
use Rattle.machine.specs.Text.{starts_pipe}
use Rattle.state_resume.specs.Written.{pipes_in}

-- the bytes from one place up to another
abbrev pub part : List ℕ → (from to : ℕ) → List ℕ
part d from to = take (to - from) (drop from d)

pub record Within (d : List ℕ) (from to : ℕ) : Type 0 where
  pub ordered : from ≤ to
  pub inside : to ≤ length d

-- t stands at the place at of e, behind what d has before it; where it has no room, that is known, and no more
pub record Grown (d : List ℕ) (at : ℕ) (t e : List ℕ) (r : ℕ) : Type 0 where
  pub place : r ≡ past d at t
  pub long : length e ≡ length d
  pub bytes : at + length t ≤ length d → take (at + length t) e ≡ take at d ++ t

-- ---- code text

abbrev pub opens_pipe : List ℕ → Bool
opens_pipe [] = false
opens_pipe (b ∷ bs) = eqb b 92 && starts_pipe bs

pub record Packed (pipes : Bool) (d : List ℕ) (at from to : ℕ) (e : List ℕ) (r : ℕ) : Type 0 where
  pub filled : Filled d at (pipes_in pipes (part d from to)) e r
  pub low : at ≤ r
  pub high : r ≤ to

abbrev pub all_spaces : List ℕ → Bool
all_spaces c = all (eqb 32) c

-- the spaces that go at each end, as in trim_code
abbrev pub cut_of : List ℕ → ℕ
cut_of [] = 0
cut_of (b ∷ bs) = if eqb b 32 && eqb (last_or b bs) 32 && not (all_spaces bs) then 1 else 0

pub record Cut (d : List ℕ) (from to n : ℕ) : Type 0 where
  pub is : n ≡ cut_of (part d from to)
  pub fits : from + n + n ≤ to
