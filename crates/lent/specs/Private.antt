-- Said for inner functions, no part of what it means to append. Assumes nothing.
use Rattle.std.specs.Prelude.{◌≡◌, List, ◌++◌, ℕ, ◌≤◌, length}
use Rattle.lent.specs.Fill.{Filled}
use Rattle.lent.specs.declared.Writer.{Writer}

-- s was appended at the place at of d, and up to n bytes behind it may be spoiled: who appends n bytes or more at r, which then cover
-- them, has appended s and these to d
pub record Ahead (d : List ℕ) (at : ℕ) (s : List ℕ) (n : ℕ) (e : List ℕ) (r : ℕ) : Type 0 where
  pub next : (t f : List ℕ) (q : ℕ) → n ≤ length t → Filled e r t f q → Filled d at (s ++ t) f q
  pub long : length e ≡ length d

-- the same of a lent buffer with its place
pub record WritesAhead (s : List ℕ) (n : ℕ) (before after : Writer) : Type 0 where
  pub ahead : Ahead before.bytes.now before.at s n after.bytes.now after.at
  pub same : after.bytes.ghost_name ≡ before.bytes.ghost_name
