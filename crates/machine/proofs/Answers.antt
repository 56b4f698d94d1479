-- Events as they are written, and tests on answers: for computed examples. Assumes nothing.
use mathlib.Core.Bool.{Bool, true, false, ◌&&◌}
use mathlib.Core.List.{List, [], ◌∷◌, ◌++◌}
use Prim.Native.Nat.{ℕ}
use Prim.Native.String.{String}
use lib.Dec.{eqb}
use lib.ListN.{length}
use Rattle.lent.specs.Bytes.{bytes, same}
use Rattle.event.specs.declared.Event.{Event}
use Rattle.character_reference.specs.declared.Names.TheVariants.{Html4, Html5}
use Rattle.machine.specs.declared.Ending.{Ending}
use Rattle.machine.specs.declared.Options.{Options}
use Rattle.machine.specs.Outcome.{Outcome, stop, go}
use Rattle.machine.specs.Run.{Answer, page, refused, stopped, run_of, machine_of}

-- ---- options

abbrev pub options_with : (apostrophes html protocol images : Bool) → Ending → Options
options_with a h p i e =
    record {
      allow_dangerous_html = h;
      allow_dangerous_protocol = p;
      allow_any_img_src = i;
      escape_apostrophes = a;
      ending = e;
      names = Html5;
    }

abbrev pub options : (html protocol images : Bool) → Ending → Options
options h p i e = options_with false h p i e

abbrev pub off : Ending → Options
off e = options false false false e

-- with the names of HTML 4.01
abbrev pub older : Ending → Options
older e = record { allow_dangerous_html = false; allow_dangerous_protocol = false; allow_any_img_src = false; escape_apostrophes = false; ending = e; names = Html4 }

abbrev pub html : Ending → Options
html e = options true false false e

abbrev pub protocol : Ending → Options
protocol e = options false true false e

abbrev pub images : Ending → Options
images e = options false false true e

abbrev pub on : Ending → Options
on e = options true true true e

-- with apostrophes escaped, and then with all else on too
abbrev pub quoted : Ending → Options
quoted e = options_with true false false false e

abbrev pub quoted_on : Ending → Options
quoted_on e = options_with true true true true e

-- ---- events

abbrev pub enter : (name : ℕ) → Event
enter n = record { kind = 0; name = n; before = 0; after = 0; from = record { 0 = 0 }; to = record { 0 = 0 }; extra = 0 }

abbrev pub exit : (name from to : ℕ) → Event
exit n from to = record { kind = 1; name = n; before = 0; after = 0; from = record { 0 = from }; to = record { 0 = to }; extra = 0 }

-- of a list or a table
abbrev pub enter_with : (name extra : ℕ) → Event
enter_with n extra = record { kind = 0; name = n; before = 0; after = 0; from = record { 0 = 0 }; to = record { 0 = 0 }; extra = extra }

-- of a code chunk
abbrev pub exit_with : (name from to before after : ℕ) → Event
exit_with n from to before after = record { kind = 1; name = n; before = before; after = after; from = record { 0 = from }; to = record { 0 = to }; extra = 0 }

-- ---- tests

-- bytes of any value, in short strings with a character for each byte: to take a long string apart costs the square of its length
abbrev pub joined : List String → List ℕ
joined [] = []
joined (s ∷ ss) = bytes s ++ joined ss

abbrev pub is_page : List ℕ → Outcome (List ℕ) → Bool
is_page b stop = false
is_page b (go c) = same b c

abbrev pub is_refused : ℕ → ℕ → Answer → Bool
is_refused n at (page c) = false
is_refused n at (refused number place) = eqb n number && eqb at place
is_refused n at (stopped place) = false

abbrev pub is_fitting : List ℕ → Answer → Bool
is_fitting b (page c) = same b c
is_fitting b (refused number place) = false
is_fitting b (stopped place) = false

-- the machine gives this page
abbrev pub shows : Options → List String → List Event → List String → Bool
shows o text es p = is_page (joined p) (machine_of (joined text) o es)

abbrev pub is_stopped : Outcome (List ℕ) → Bool
is_stopped stop = true
is_stopped (go c) = false

-- it stops
abbrev pub stops : Options → List String → List Event → Bool
stops o text es = is_stopped (machine_of (joined text) o es)

-- an output of room bytes holds this page
abbrev pub fits : Options → (room : ℕ) → List ℕ → List Event → List ℕ → Bool
fits o room text es p = is_fitting p (run_of text o room es)

abbrev pub is_long : ℕ → Answer → Bool
is_long n (page c) = eqb (length c) n
is_long n (refused number place) = false
is_long n (stopped place) = false

-- the page has all of its bytes
abbrev pub fills : Options → (room : ℕ) → List ℕ → List Event → Bool
fills o room text es = is_long room (run_of text o room es)

-- it is refused, with this number at this place
abbrev pub refuses : Options → (room : ℕ) → List ℕ → List Event → ℕ → ℕ → Bool
refuses o room text es number place = is_refused number place (run_of text o room es)
