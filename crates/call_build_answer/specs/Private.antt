-- What the inner function does: no part of a promise. Assumes nothing.
use Rattle.std.specs.Prelude.{◌≡◌, List, ℕ, length}
use Rattle.lent.specs.Fill.{zeros}
use Rattle.call_build_answer.specs.Built.{cleared_from}

pub record Clears (from : ℕ) (out work out' work' : List ℕ) : Type 0 where
  pub bytes : out' ≡ cleared_from from out
  pub cleared : work' ≡ zeros (length work)
