-- Labels of the list that are among kept labels, by their identities. Assumes nothing.
use Rattle.std.specs.Prelude.{◌≡◌, ◌⊎◌, List, [], ◌∷◌, ℕ, Some, None}
use Rattle.event.specs.declared.Event.{Event}
use Rattle.normalize_identifier.specs.Identity.{identity_of}
use Rattle.check_labels.specs.Labels.{Part, slice, label_of}
use Rattle.check_rules.specs.Elements.{Forest, nil, element}

-- one of the labels has this identity
abbrev pub Has : List ℕ → List (List ℕ) → Type 0
Has id [] = ⊥
Has id (l ∷ ls) = (identity_of l ≡ id) ⊎ Has id ls

abbrev pub HasPart : List ℕ → Part → List (List ℕ) → Type 0
HasPart text (Some (from, to)) ls = Has (identity_of (slice text from to)) ls
HasPart text None ls = Unit {0}

-- the slices of the exits of an n are
abbrev pub Known : List ℕ → ℕ → List Event → List (List ℕ) → Type 0
Known text n [] ls = Unit {0}
Known text n (e ∷ es) ls = HasPart text (label_of n e) ls × Known text n es ls

abbrev pub AllIn : List ℕ → ℕ → Forest → List (List ℕ) → Type 0
AllIn text n nil ls = Unit {0}
AllIn text n (element a f z g) ls = HasPart text (label_of n z) ls × AllIn text n f ls × AllIn text n g ls
