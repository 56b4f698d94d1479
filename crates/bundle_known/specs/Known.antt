-- What is known of a bundle while it comes, and what more bytes of it add, from any state. For the parts of one bundle nobody has to read this: `ended` and `fed` of bundle_parts say it by the joined bytes alone. Assumes nothing.
use Rattle.std.specs.Prelude.{Bool, true, false, ◌&&◌, List, ℕ, ◌+◌, ◌-◌, ◌*◌, ◌/◌, min, leb, length, drop, if◌then◌else◌, Ok, Err}
use Rattle.lent.specs.Fill.{fill}
use Rattle.bundle_block.specs.declared.Refusal.{Refusal}
use Rattle.bundle_block.specs.Block.{Verdict, edition_in}
use Rattle.bundle_run.specs.Run.{judge_run, held_in}
use Rattle.bundle_read.specs.Bundle.{blocks_for, text_length, event_length, judge_header}
use Rattle.bundle_read.specs.Sizes.{text_room, text_kind, event_kind}
use Rattle.bundle_known.specs.declared.Known.{Known}

-- before the first block
abbrev pub unknown : Known
unknown = record { begun = false; edition = 0; text = 0; events = 0; text_came = 0; events_came = 0 }

-- what block 0 says; of text and events nothing has come
abbrev pub said_in : List ℕ → Known
said_in l = record { begun = true; edition = edition_in l; text = text_length l; events = event_length l; text_came = 0; events_came = 0 }

module _ (k : Known) where
  -- the number of the block that comes next, block 0 being there
  abbrev pub index_of : ℕ
  index_of = 1 + blocks_for text_room k.text_came + blocks_for text_room k.events_came

  -- every block that the header asks for has come
  abbrev pub whole_of : Bool
  whole_of = k.begun && leb k.text k.text_came && leb k.events k.events_came

  abbrev pub with_text : ℕ → Known
  with_text came = record k { text_came = came }

  abbrev pub with_events : ℕ → Known
  with_events came = record k { events_came = came }

-- ---- a run of blocks, of which `came` of `total` bytes have come; the next block has the number index

-- of the bytes l as many blocks as are whole and due
abbrev pub taken : (came total : ℕ) → List ℕ → ℕ
taken came total l = min (length l / 512) (blocks_for text_room (total - came))

-- how much has come with them
abbrev pub came_then : (came total : ℕ) → List ℕ → ℕ
came_then came total l = came + min (text_room * taken came total l) (total - came)

-- the verdict on them
unfoldable pub judge_taken : (edition kind index came total : ℕ) → List ℕ → Verdict
judge_taken edition kind index came total l = judge_run edition kind text_room index (taken came total l) (total - came) l

-- what they hold, in the buffer d behind what came before
unfoldable pub fill_taken : (came total : ℕ) → List ℕ → List ℕ → List ℕ
fill_taken came total d l = fill d came (held_in text_room (taken came total l) (total - came) l)

-- what is left of l
abbrev pub left_of : (came total : ℕ) → List ℕ → List ℕ
left_of came total l = drop (512 * taken came total l) l

-- ---- bytes that come

-- a block is refused; or so much is known, the buffers hold so much, and so many bytes are left, which are no whole block that is due
pub data Came : Type 0 where
  goes : Known → (text events left : List ℕ) → Came
  stops : Refusal → Came

infixl 4 ◌then◌
abbrev pub ◌then◌ : Came → (Known → List ℕ → List ℕ → List ℕ → Came) → Came
(goes k t e l) then f = f k t e l
(stops r) then f = stops r

abbrev pub unless : Verdict → Came → Came
unless (Ok o) c = c
unless (Err r) c = stops r

-- a run's blocks that are there: one is refused, or f goes on from how much has come, the buffer and what is left
abbrev pub taking : (edition kind index came total : ℕ) (d l : List ℕ) → (ℕ → List ℕ → List ℕ → Came) → Came
taking edition kind index came total d l f = unless (judge_taken edition kind index came total l) (f (came_then came total l) (fill_taken came total d l) (left_of came total l))

-- the text blocks, then the event blocks, as far as they have come
unfoldable pub text_of : Known → (t e l : List ℕ) → Came
text_of k t e l = taking k.edition text_kind (index_of k) k.text_came k.text t l (λ came t' left. goes (with_text k came) t' e left)

unfoldable pub events_of : Known → (t e l : List ℕ) → Came
events_of k t e l = taking k.edition event_kind (index_of k) k.events_came k.events e l (λ came e' left. goes (with_events k came) t e' left)

unfoldable pub runs_of : Known → (t e l : List ℕ) → Came
runs_of k t e l = text_of k t e l then events_of

-- block 0 first
unfoldable pub advance_of : Known → (t e l : List ℕ) → Came
advance_of k t e l =
    if k.begun then runs_of k t e l
    else (if leb 512 (length l) then unless (judge_header l) (runs_of (said_in l) t e (drop 512 l))
    else goes k t e l)
