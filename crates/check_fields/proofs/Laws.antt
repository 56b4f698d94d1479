-- The laws of the pass: what other crates cite. Assumes nothing.
use Rattle.std.proofs.Common.{◌≡◌, ◌↔◌, List, None, Some, ℕ, ◌/◌, length}
use Rattle.check_fields.specs.Fields.{fields_hold, fields_of}
use Rattle.check_fields.proofs.First.{FirstBelow, AllBelow, passes_at, found_none, found_some}

module _ (text events : List ℕ) where
  -- none exactly when every event passes
  pub fields-yes : (fields_of text events ≡ None) ↔ AllBelow (passes_at (fields_hold text) events) (length events / 20)
  unfolding fields_of
  fields-yes = found_none (fields_hold text) events

  -- i exactly when it is the first event that does not
  pub fields_at : (i : ℕ) → (fields_of text events ≡ Some i) ↔ FirstBelow (passes_at (fields_hold text) events) (length events / 20) i
  unfolding fields_of
  fields_at i = found_some (fields_hold text) events i
