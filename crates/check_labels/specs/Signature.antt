-- Signatures of the definitions' labels: what the search goes by before it compares. The answer does not depend on them: no part of a promise. Assumes nothing.
use Rattle.std.specs.Prelude.{◌≡◌, Bool, true, List, [], ℕ, ◌+◌, ◌*◌, ◌/◌, ◌<◌, ◌≤◌, length, drop, get_or}
use Rattle.event.specs.declared.Event.{Event}
use Rattle.event.specs.Event.{events_of}
use Rattle.normalize_identifier.specs.Identity.{identity_of}
use Rattle.signature.specs.declared.Signature.{Signature}
use Rattle.signature.specs.Signature.{words, signature_of}
use Rattle.signature.specs.Signed.{Differs}
use Rattle.check_labels.specs.Labels.{slice, identities}

-- the two words at an index
abbrev pub words_at : List ℕ → ℕ → Signature
words_at signatures k = words (get_or signatures (2 * k) 0) (get_or signatures (2 * k + 1) 0)

-- of so many of a list's identities the signatures stand in their order, as far as there is room
pub record SignedTo (m : ℕ) (ids : List (List ℕ)) (signatures : List ℕ) : Type 0 where
  pub right : (k : ℕ) → k < m → k < length signatures / 2 → words_at signatures k ≡ signature_of (get_or ids k [])

-- of all labels of the definitions or of the footnote definitions
abbrev pub Signed : (text events : List ℕ) → ℕ → List ℕ → Type 0
Signed text events n signatures = SignedTo (length (identities n text (events_of events))) (identities n text (events_of events)) signatures

-- the labels from the event i on are those from the k-th on
pub record Reached (text events : List ℕ) (n i k : ℕ) : Type 0 where
  pub left : identities n text (drop i (events_of events)) ≡ drop k (identities n text (events_of events))
  pub few : k ≤ i

-- and those before are signed
pub record Signing (text events : List ℕ) (n i k : ℕ) (signatures : List ℕ) : Type 0 where
  pub reached : Reached text events n i k
  pub signed : SignedTo k (identities n text (events_of events)) signatures

-- where it is so before the event i, it is so behind it
pub record Signs (text events : List ℕ) (n i k : ℕ) (before : List ℕ) (r : ℕ) (after : List ℕ) : Type 0 where
  pub signs : Signing text events n i k before → Signing text events n (i + 1) r after

-- the signature of an event's slice is put at the place k, if there is room; those before stay
pub record Puts (text : List ℕ) (e : Event) (k : ℕ) (before after : List ℕ) : Type 0 where
  pub here : k < length before / 2 → words_at after k ≡ signature_of (identity_of (slice text e.from.0 e.to.0))
  pub others : (j : ℕ) → j < k → words_at after j ≡ words_at before j
  pub long : length after ≡ length before

-- where it says so, the signature at a place is not s
pub record Skips (signatures : List ℕ) (i : ℕ) (s : Signature) (r : Bool) : Type 0 where
  pub inside : r ≡ true → i < length signatures / 2
  pub differs : Differs (get_or signatures (2 * i) 0) (get_or signatures (2 * i + 1) 0) s r
