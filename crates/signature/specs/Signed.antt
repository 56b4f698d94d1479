-- Tables of labels with their signatures, and the search in one. Assumes nothing.
use Rattle.std.specs.Prelude.{◌≡◌, Bool, true, List, [], ℕ, ◌<◌, length, get_or}
use Rattle.normalize_identifier.specs.Identity.{identity_of}
use Rattle.normalize_identifier.specs.Search.{Found, labels_of, first_same}
use Rattle.signature.specs.declared.Signature.{Signature}
use Rattle.signature.specs.Signature.{words, signature_of}

-- two columns have the signatures of labels
pub record Signs (firsts seconds : List ℕ) (labels : List (List ℕ)) : Type 0 where
  pub signs : (k : ℕ) → k < length labels → words (get_or firsts k 0) (get_or seconds k 0) ≡ signature_of (identity_of (get_or labels k []))

-- where it says so, two words are not s
pub record Differs (first second : ℕ) (s : Signature) (r : Bool) : Type 0 where
  pub other : r ≡ true → words first second ≡ s → ⊥

abbrev pub RowDiffers : (firsts seconds : List ℕ) (k : ℕ) → Signature → Bool → Type 0
RowDiffers firsts seconds k s r = Differs (get_or firsts k 0) (get_or seconds k 0) s r

-- where the columns have their signatures, the first of n labels that has a label's identity
pub record Finds (text starts ends firsts seconds : List ℕ) (n : ℕ) (label : List ℕ) (r : Found) : Type 0 where
  pub finds : Signs firsts seconds (labels_of text starts ends n) → r ≡ first_same (labels_of text starts ends n) label
