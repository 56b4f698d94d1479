-- The call that reads a bundle: its answer, the answer's numbers, and every byte of the two buffers afterwards. Assumes nothing.
use Rattle.std.specs.Prelude.{◌≡◌, ◌&&◌, List, ◌++◌, ℕ, ◌-◌, leb, length, Result, Ok, Err, if◌then◌else◌}
use Rattle.lent.specs.Fill.{zeros}
use Rattle.bundle_block.specs.declared.Refusal.{Refusal}
use Rattle.bundle_block.specs.declared.Refusal.TheVariants.{Short, Broken, BadCheck, OtherEdition}
use Rattle.bundle_read.specs.declared.Contents.{Contents}
use Rattle.bundle_block.specs.Block.{Verdict, ◌before◌, demand}
use Rattle.bundle_read.specs.Bundle.{judge_bundle, Meaning, says, refused, read_of}
use Rattle.bundle_read.specs.Sizes.{least_room}

-- a refusal's number and place
abbrev pub refusal_number : Refusal → ℕ
refusal_number Short = 1
refusal_number (Broken block) = 10
refusal_number (BadCheck block) = 11
refusal_number (OtherEdition block) = 12

abbrev pub refusal_place : Refusal → ℕ
refusal_place Short = 0
refusal_place (Broken block) = block
refusal_place (BadCheck block) = block
refusal_place (OtherEdition block) = block

-- the lengths and the edition, or why the bundle is refused
abbrev pub Answer : Type 0
Answer = Result Contents Refusal

-- the number: 0 for an answer, else the refusal's
abbrev pub number_of : Answer → ℕ
number_of (Ok c) = 0
number_of (Err r) = refusal_number r

-- the text's length, or the refusal's place
abbrev pub value_of : Answer → ℕ
value_of (Ok c) = c.text
value_of (Err r) = refusal_place r

-- the events' length in bytes, and the edition
abbrev pub events_of : Answer → ℕ
events_of (Ok c) = c.events
events_of (Err r) = 0

abbrev pub edition_of : Answer → ℕ
edition_of (Ok c) = c.edition
edition_of (Err r) = 0

-- refusal 1 comes before all others
unfoldable pub call_of : List ℕ → (text_buffer event_buffer : ℕ) → Meaning
call_of bundle text_buffer event_buffer = if leb least_room text_buffer && leb least_room event_buffer then read_of bundle else refused Short

-- the answer says the lengths, in bytes
abbrev pub answer_of : Meaning → Answer
answer_of (says text events edition) = Ok (record { text = length text; events = length events; edition = edition })
answer_of (refused r) = Err r

-- what the buffers hold then: the text and the events with zeros behind, or zeros alone
abbrev pub text_bytes : Meaning → (buffer : ℕ) → List ℕ
text_bytes (says text events edition) buffer = text ++ zeros (buffer - length text)
text_bytes (refused r) buffer = zeros buffer

abbrev pub event_bytes : Meaning → (buffer : ℕ) → List ℕ
event_bytes (says text events edition) buffer = events ++ zeros (buffer - length events)
event_bytes (refused r) buffer = zeros buffer

-- RULES R7.2: the number, and the lengths of text and events with the edition; or 1, 10, 11, 12 with the block
abbrev pub Numbered : Meaning → Answer → Type 0
Numbered (says text events edition) r = (number_of r ≡ 0) × (value_of r ≡ length text) × (events_of r ≡ length events) × (edition_of r ≡ edition)
Numbered (refused Short) r = (number_of r ≡ 1) × (value_of r ≡ 0)
Numbered (refused (Broken block)) r = (number_of r ≡ 10) × (value_of r ≡ block)
Numbered (refused (BadCheck block)) r = (number_of r ≡ 11) × (value_of r ≡ block)
Numbered (refused (OtherEdition block)) r = (number_of r ≡ 12) × (value_of r ≡ block)

-- a call on this bundle and the buffers t and e answered r and left u and f
pub record HasRead (bundle t e u f : List ℕ) (r : Answer) : Type 0 where
  pub answer : r ≡ answer_of (call_of bundle (length t) (length e))
  pub numbers : Numbered (call_of bundle (length t) (length e)) r
  pub text : u ≡ text_bytes (call_of bundle (length t) (length e)) (length t)
  pub events : f ≡ event_bytes (call_of bundle (length t) (length e)) (length e)

-- ---- said for the inner functions, no part of the promise

abbrev pub judge_call : List ℕ → (text_buffer event_buffer : ℕ) → Verdict
judge_call bundle text_buffer event_buffer = demand (leb least_room text_buffer && leb least_room event_buffer) Short before judge_bundle bundle
