-- A bundle that is read, with the number alone for its answer. Assumes nothing.
use Rattle.std.specs.Prelude.{◌≡◌, List, ℕ, length}
use Rattle.bundle_read.specs.Read
use Rattle.bundle_parts.specs.Late.{call_late}

-- as `HasRead` of the bundle reader
pub record HasNumber (bundle t e u f : List ℕ) (r : ℕ) : Type 0 where
  pub answer : Read.Answer
  pub reads : Read.HasRead bundle t e u f answer
  pub number : r ≡ Read.number_of answer

-- as `HasReadLate` of the reader in parts
pub record HasNumberLate (bundle t e u f : List ℕ) (r : ℕ) : Type 0 where
  pub answer : r ≡ Read.number_of (Read.answer_of (call_late bundle (length t) (length e)))
  pub text : u ≡ Read.text_bytes (call_late bundle (length t) (length e)) (length t)
  pub events : f ≡ Read.event_bytes (call_late bundle (length t) (length e)) (length e)
