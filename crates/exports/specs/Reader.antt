-- The state of a reader in parts as C keeps it between two calls. Whatever its numbers are, it stands for one. Assumes nothing.
use Rattle.std.specs.Prelude.{Bool, not, ℕ, eqb, Some, None, Ok, Err, if◌then◌else◌}
use Rattle.bundle_block.specs.declared.Refusal.{Refusal}
use Rattle.bundle_block.specs.declared.Refusal.TheVariants.{Short, Broken, BadCheck, OtherEdition}
use Rattle.bundle_read.specs.Read.{Answer}
use Rattle.bundle_known.specs.declared.Known.{Known}
use Rattle.bundle_parts.specs.Feed.{Progress}
use Rattle.bundle_parts.specs.declared.Reader.{Reader}
use Rattle.exports.specs.declared.NotepageRead.{NotepageRead}
use Rattle.exports.specs.declared.NotepageReader.{NotepageReader}

abbrev pub is_set : ℕ → Bool
is_set n = not (eqb n 0)

-- the number and the block
unfoldable pub refusal_of : (number place : ℕ) → Refusal
refusal_of number place = if eqb number 1 then Short else (if eqb number 11 then BadCheck place else (if eqb number 12 then OtherEdition place else Broken place))

unfoldable pub answer_of : NotepageRead → Answer
answer_of a = if eqb a.number 0 then Ok (record { text = a.value; events = a.events; edition = a.edition }) else Err (refusal_of a.number a.value)

unfoldable pub progress_of : (done : ℕ) → NotepageRead → Progress
progress_of done a = if eqb done 0 then None else Some (answer_of a)

abbrev pub known_of : NotepageReader → Known
known_of r =
    record {
      begun = is_set r.begun;
      edition = r.edition;
      text = r.text;
      events = r.events;
      text_came = r.text_came;
      events_came = r.events_came;
    }

unfoldable pub reader_of : NotepageReader → Reader
reader_of r =
    record {
      state = record { known = known_of r; held = r.held; over = is_set r.over; progress = progress_of r.done r.answer };
      rest = r.rest;
    }
