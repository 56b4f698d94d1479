-- What the inner functions promise: no part of a promise to others. Assumes nothing.
use Rattle.std.specs.Prelude.{◌≡◌, List, [], ◌∷◌, ℕ, suc, ◌+◌, ◌*◌, ◌<◌, length, take, drop, set}
use Rattle.regions.specs.Regions.{Carries}
use Rattle.regions.specs.Sizes.{kept_at}
use Rattle.normalize_identifier.specs.Search.{Found, first_same}
use Rattle.signature.specs.declared.Columns.{Columns}
use Rattle.signature.specs.Signed.{Signs}
use Rattle.state_kept.specs.Kept.{LabelIs, Labels}

-- the words of one row, in the columns from k on
abbrev pub set_row : (n i k : ℕ) → (words table : List ℕ) → List ℕ
set_row n i k [] table = table
set_row n i k (v ∷ vs) table = set_row n i (suc k) vs (set table (k * n + i) v)

-- a row set, where the table has it
pub record SetsRow (n i : ℕ) (words table table' : List ℕ) : Type 0 where
  pub row : i < n → length words * n ≡ length table → table' ≡ set_row n i 0 words table

-- the columns that a search goes by, as a table has them
pub record Cut (table : List ℕ) (rows first : ℕ) (c : Columns) : Type 0 where
  pub starts : c.starts.now ≡ take rows (drop 0 table)
  pub ends : c.ends.now ≡ take rows (drop rows table)
  pub firsts : c.firsts.now ≡ take rows (drop first table)
  pub seconds : c.seconds.now ≡ take rows (drop (first + rows) table)

-- of the labels whose places are a table's first two columns, and whose signatures two more, the first with a label's identity
pub record FindsLabel (text : List ℕ) (from to : ℕ) (table : List ℕ) (rows first second n : ℕ) (r : Found) : Type 0 where
  pub finds : {label : List ℕ} {labels : List (List ℕ)} → Labels text (take rows (drop 0 table)) (take rows (drop rows table)) n labels
      → Signs (take rows (drop first table)) (take rows (drop second table)) labels → LabelIs text from to label → r ≡ first_same labels label

-- nothing is carried for a title that is missing
pub record CarriesTitle (work : List ℕ) (place title at : ℕ) (work' : List ℕ) (r : ℕ) : Type 0 where
  pub missing : title ≡ 0 → (work' ≡ work) × (r ≡ at)
  pub there : {n : ℕ} → title ≡ suc n → Carries work place n kept_at at work' r
