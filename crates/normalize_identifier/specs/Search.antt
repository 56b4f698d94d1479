-- The search for a label in a table of labels: of equal ones the first counts. Assumes nothing.
use Rattle.std.specs.Prelude.{List, [], ◌∷◌, ℕ, ◌+◌, ◌-◌, ◌<◌, ◌≤◌, length, get_or, take, drop, if◌then◌else◌, Option, Some, None}
use Rattle.lent.specs.Bytes.{same}
use Rattle.normalize_identifier.specs.Identity.{identity_of}

-- the parts of a text from each start to its end
unfoldable pub parts : List ℕ → List ℕ → List ℕ → List (List ℕ)
parts text [] ends = []
parts text (s ∷ ss) [] = []
parts text (s ∷ ss) (e ∷ es) = take (e - s) (drop s text) ∷ parts text ss es

-- the first n labels of a table
unfoldable pub labels_of : List ℕ → List ℕ → List ℕ → ℕ → List (List ℕ)
labels_of text starts ends n = parts text (take n starts) (take n ends)

-- a table has n entries at least, and these lie in the text
pub record Table (text starts ends : List ℕ) (n : ℕ) : Type 0 where
  pub starts-long : n ≤ length starts
  pub ends-long : n ≤ length ends
  pub ordered : (k : ℕ) → k < n → get_or starts k 0 ≤ get_or ends k 0
  pub inside : (k : ℕ) → k < n → get_or ends k 0 ≤ length text

-- what a search finds: an index, or nothing
abbrev pub Found : Type 0
Found = Option ℕ

-- the first of labels, counted from k, that has the identity of a label
unfoldable pub first_from : ℕ → List (List ℕ) → List ℕ → Found
first_from k [] label = None
first_from k (l ∷ ls) label = if same (identity_of l) (identity_of label) then Some k else first_from (k + 1) ls label

unfoldable pub first_same : List (List ℕ) → List ℕ → Found
first_same labels label = first_from 0 labels label
