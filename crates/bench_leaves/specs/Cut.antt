-- A bundle that was fed in parts up to a place: no part of a promise. Assumes nothing.
use Rattle.std.specs.Prelude.{◌≡◌, List, ℕ, take}
use Rattle.bundle_parts.specs.declared.Reader.{Reader}
use Rattle.bundle_parts.specs.Feed.{stand_of, start_of}
use Rattle.bundle_parts.specs.Parts.{joined, fed_of}

pub record Cut (bundle : List ℕ) (at : ℕ) (t e t' e' : List ℕ) (r : Reader) : Type 0 where
  pub parts : List (List ℕ)
  pub joins : joined parts ≡ take at bundle
  pub stands : stand_of r t' e' ≡ fed_of (start_of t e) parts
