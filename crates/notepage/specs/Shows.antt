-- What the program shows of the bundle that its input brings: the page of its note with all options off, or the first refusal. Assumes nothing.
use Rattle.std.specs.Prelude.{◌≡◌, false, List, ℕ, length, Result, Ok, Err}
use Rattle.machine.specs.declared.Options.{Options}
use Rattle.machine.specs.declared.Ending.TheVariants.{Lf}
use Rattle.character_reference.specs.declared.Names.TheVariants.{Html5}
use Rattle.bundle_read.specs.Bundle.{Meaning, says, refused}
use Rattle.bundle_read.specs.Read as R
use Rattle.bundle_parts.specs.declared.Reader.{Reader}
use Rattle.bundle_parts.specs.Feed.{stand_of, start_of}
use Rattle.bundle_parts.specs.Late.{call_late}
use Rattle.bundle_parts.specs.Parts.{joined, fed_of}
use Rattle.call_build_answer.specs.Built.{Built, number_of, value_of}
use Rattle.call_build.specs.Build.{Ends}
use Rattle.notepage.specs.declared.NoPage.{NoPage}
use Rattle.notepage.specs.declared.NoPage.TheVariants.{Refused, Unread}

-- the length of a page, or why there is none
abbrev pub Shown : Type 0
Shown = Result ℕ NoPage

abbrev pub off_of : Options
off_of = record { allow_dangerous_html = false; allow_dangerous_protocol = false; allow_any_img_src = false; escape_apostrophes = false; ending = Lf; names = Html5 }

abbrev pub shown_of : Built → Shown
shown_of (Ok n) = Ok n
shown_of (Err r) = Err (Refused (number_of (Err r)) (value_of (Err r)))

-- the note is built; s is what the program shows, and out' what the output holds then
pub record ShowsNote (text events out work out' : List ℕ) (s : Shown) : Type 0 where
  pub built : Built
  pub ended : Ends text events off_of (length out) (length work) out' built
  pub shown : s ≡ shown_of built

-- where the bundle is refused, that is shown
abbrev pub ShowsOf : Meaning → (out work out' : List ℕ) → Shown → Type 0
ShowsOf (refused r) out work out' s = s ≡ Err (Refused (R.refusal_number r) (R.refusal_place r))
ShowsOf (says text events edition) out work out' s = ShowsNote text events out work out' s

-- the promise once the input has ended: where the reader and the buffers stand as some parts led them, what is shown is that of the joined parts
pub record ShowsEnd (r : Reader) (t e out work out' : List ℕ) (s : Shown) : Type 0 where
  pub shows : (t₀ e₀ : List ℕ) (parts : List (List ℕ)) → stand_of r t e ≡ fed_of (start_of t₀ e₀) parts → ShowsOf (call_late (joined parts) (length t₀) (length e₀)) out work out' s

-- the whole program: there are parts of which that is shown, or nothing is, since the input could not be read. No contract can say what a read brings, so that
-- these parts are the input's is not said here: it is run
pub data Shows (t e out work out' : List ℕ) (s : Shown) : Type 0 where
  read : (parts : List (List ℕ)) → ShowsOf (call_late (joined parts) (length t) (length e)) out work out' s → Shows t e out work out' s
  unread : s ≡ Err Unread → Shows t e out work out' s
