-- The call that writes a bundle (RULES R15.8): its answer, the answer's numbers, and every byte of the buffer afterwards. Assumes nothing.
use Rattle.std.specs.Prelude.{◌≡◌, Bool, not, ◌&&◌, List, ◌++◌, ℕ, ◌-◌, ◌*◌, ◌%◌, eqb, leb, ltb, length, Result, Ok, Err, if◌then◌else◌}
use Rattle.lent.specs.Fill.{zeros}
use Rattle.bundle_read.specs.Bundle.{bundle_of}
use Rattle.bundle_read.specs.Sizes.{most_text, most_events, record_size}
use Rattle.bundle_writer.specs.declared.WriteRefusal.{WriteRefusal}
use Rattle.bundle_writer.specs.declared.WriteRefusal.TheVariants.{WrongLength, NoRoom}

-- the bundle's length, or why none was written
abbrev pub Packed : Type 0
Packed = Result ℕ WriteRefusal

-- the number: 0 for an answer, else the refusal's
abbrev pub number_of : Packed → ℕ
number_of (Ok n) = 0
number_of (Err WrongLength) = 1
number_of (Err NoRoom) = 9

-- the length, or the refusal's place
abbrev pub value_of : Packed → ℕ
value_of (Ok n) = n
value_of (Err r) = 0

-- text and events of so many bytes are within the sizes of RULES R8.1, and the events are whole records
abbrev pub right_lengths : (text events : ℕ) → Bool
right_lengths text events = leb text most_text && leb events (record_size * most_events) && eqb (events % record_size) 0

-- one of three, for a buffer of room bytes: wrong lengths, before no room for the bundle, before the bundle
unfoldable pub choose : {A : Type 0} → (text events : List ℕ) (edition room : ℕ) → (wrong none packed : A) → A
choose text events edition room wrong none packed =
    if not (right_lengths (length text) (length events)) then wrong
    else (if ltb room (length (bundle_of text events edition)) then none
    else packed)

-- a call with this text, these events and this edition, on the buffer d, answered r and left e
pub record HasPacked (text events : List ℕ) (edition : ℕ) (d e : List ℕ) (r : Packed) : Type 0 where
  pub answer : r ≡ choose text events edition (length d) (Err WrongLength) (Err NoRoom) (Ok (length (bundle_of text events edition)))
  pub number : number_of r ≡ choose text events edition (length d) 1 9 0
  pub value : value_of r ≡ choose text events edition (length d) 0 0 (length (bundle_of text events edition))
  pub bytes : e ≡ choose text events edition (length d) (zeros (length d)) (zeros (length d)) (bundle_of text events edition ++ zeros (length d - length (bundle_of text events edition)))
