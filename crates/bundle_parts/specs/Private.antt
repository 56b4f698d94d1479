-- What the inner functions answer: no part of the promise. Assumes nothing.
use Rattle.std.specs.Prelude.{◌≡◌, Bool, List, ◌++◌, ℕ, length, if◌then◌else◌}
use Rattle.lent.specs.Fill.{zeros}
use Rattle.bundle_known.specs.declared.Known.{Known}
use Rattle.bundle_known.specs.Known.{advance_of}
use Rattle.bundle_parts.specs.declared.State.{State}
use Rattle.bundle_parts.specs.Feed.{standing, rest_of, settled, fresh, closed}

abbrev pub cleared_unless : Bool → List ℕ → List ℕ
cleared_unless begun d = if begun then d else zeros (length d)

pub record TookMore (s : State) (rest part t e rest' t' e' : List ℕ) (r : State) : Type 0 where
  pub stands : standing r rest' t' e' ≡ settled s.over t e (advance_of s.known (fresh s.known (rest_of s rest) t) (fresh s.known (rest_of s rest) e) (rest_of s rest ++ part))

pub record Finished (known : Known) (over : Bool) (t e t' e' : List ℕ) (r : State) : Type 0 where
  pub stands : (rest : List ℕ) → standing r rest t' e' ≡ closed over known t e
