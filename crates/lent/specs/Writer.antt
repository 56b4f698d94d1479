-- What it means to write to a lent buffer. Assumes nothing.
use Rattle.std.specs.Prelude.{◌≡◌, List, ◌++◌, ℕ, ◌-◌, length, take}
use Rattle.lent.specs.Fill.{Filled, zeros}
use Rattle.lent.specs.declared.Writer.{Writer}

-- s was appended, and the buffer is the same one
pub record Writes (s : List ℕ) (before after : Writer) : Type 0 where
  pub filled : Filled before.bytes.now before.at s after.bytes.now after.at
  pub same : after.bytes.ghost_name ≡ before.bytes.ghost_name

-- zeros stand behind the place, and nothing else is another
pub record Clears (before after : Writer) : Type 0 where
  pub bytes : after.bytes.now ≡ take before.at before.bytes.now ++ zeros (length before.bytes.now - before.at)
  pub place : after.at ≡ before.at
  pub same : after.bytes.ghost_name ≡ before.bytes.ghost_name
