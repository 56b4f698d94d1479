-- The passes over the events, and the answer (RULES R9). Assumes nothing.
use Rattle.std.specs.Prelude.{Bool, true, false, not, ◌&&◌, ◌||◌, List, [], ◌∷◌, ◌++◌, ℕ, suc, length, if◌then◌else◌}
use Rattle.std.proofs.Math.Option.{Option, none, some}
use Rattle.lent.specs.Bytes.{bytes, same}
use Rattle.event.specs.declared.Event.{Event}
use Rattle.event.specs.Event.{is_enter, named}
use Rattle.machine.specs.declared.Ending.{Ending}
use Rattle.machine.specs.declared.Ending.TheVariants.{Lf, Cr, CrLf}
use Rattle.machine.specs.declared.Fixed.{Fixed}
use Rattle.machine.specs.declared.Options.{Options}
use Rattle.machine.specs.Outcome.{Outcome, stop, go, ◌>>=◌}
use Rattle.machine.specs.State.{State, start}
use Rattle.machine.specs.Turn.{Turn, is_exit, span_of, str_of}
use Rattle.machine.specs.Section.{footnote_section}
use Rattle.machine.specs.Test.{is_empty}
use Rattle.machine.specs.Handlers.{handle}
use Rattle.machine.specs.Totals.{over}

-- ---- RULES R9.3: the line ending, which the earliest exit of a 3 or 4 has, wherever it is; else the default

abbrev pub parse_ending : List ℕ → Outcome Ending
parse_ending b =
    if same b (bytes "\n") then go Lf
    else (if same b (bytes "\r") then go Cr
    else (if same b (bytes "\r\n") then go CrLf
    else stop))

unfoldable pub ending_of : Ending → (text : List ℕ) → List Event → Outcome Ending
ending_of default text [] = go default
ending_of default text (e ∷ es) =
    elim (is_exit e && named (3 ∷ 4 ∷ []) e) [
      | true ↦ str_of text (span_of e) >>= parse_ending
      | false ↦ ending_of default text es
    ]

-- what the caller chose and the ending that was found, for the whole build
abbrev pub fixed_of : Options → Ending → Fixed
fixed_of o ending = record { ending = ending; names = o.names; apostrophes = o.escape_apostrophes }

-- ---- RULES R9.2: a pass over the definitions alone, then one over all other events

-- the turns of the pass over definitions, or of the other, from the event at a place on; inside a definition are its enter and exit too
unfoldable pub pass_from : (definitions : Bool) → (text : List ℕ) → Options → (inside : Bool) → (place : ℕ) → (before : List Event) → List Event → List Turn
pass_from definitions text o inside place before [] = []
pass_from definitions text o inside place before (e ∷ es) =
    let here = inside || is_enter e && named (53 ∷ []) e in
    let turn : Turn = record { text = text; options = o; event = e; place = place; before = before; last = is_empty es } in
    let rest = pass_from definitions text o (here && not (is_exit e && named (53 ∷ []) e)) (suc place) (e ∷ before) es in
    if (if definitions then here else not here) then turn ∷ rest else rest

-- definitions begin before they end: the Rust takes the newest one at an exit, and would panic where there is none
unfoldable pub are_begun : List Event → Bool
are_begun [] = true
are_begun (e ∷ es) = if named (53 ∷ []) e then is_enter e else are_begun es

unfoldable pub turns_of : (text : List ℕ) → Options → List Event → List Turn
turns_of text o es = pass_from true text o false 0 [] es ++ pass_from false text o false 0 [] es

-- ---- the run

-- a page, a refusal with its number and place, or a stop, where the Rust would panic
pub data Answer : Type 0 where
  page : List ℕ → Answer
  refused : ℕ → ℕ → Answer
  stopped : ℕ → Answer

-- n events; the test gives a refusal's number where a state has no room
module _ (n : ℕ) (limit : State → Option ℕ) where
  abbrev pub section_end : Outcome State → Answer
  section_end stop = stopped n
  section_end (go s) = elim (limit s) [ some number ↦ refused number n | none ↦ page s.page ]

  -- the footnote section last; no section where nothing was called
  unfoldable pub finish : State → Answer
  finish s = elim (is_empty s.kept.calls) [ true ↦ page s.page | false ↦ section_end (footnote_section s) ]

  unfoldable pub run_from : List Turn → State → Answer
  run_from [] s = finish s
  run_from (t ∷ ts) s =
      elim (handle t s) [
        | stop ↦ stopped t.place
        | go u ↦ elim (limit u) [ some number ↦ refused number t.place | none ↦ run_from ts u ]
      ]

unfoldable pub run_with : (limit : State → Option ℕ) → (text : List ℕ) → Options → List Event → Answer
run_with limit text o es =
    elim (ending_of o.ending text es) [
      | stop ↦ stopped 0
      | go ending ↦ elim (are_begun es) [ true ↦ run_from (length es) limit (turns_of text o es) (start (fixed_of o ending)) | false ↦ stopped 0 ]
    ]

-- with the limits: the answer on a list that the checker passes
unfoldable pub run_of : (text : List ℕ) → Options → (room : ℕ) → List Event → Answer
run_of text o room es = run_with (over room) text o es

abbrev pub page_of : Answer → Outcome (List ℕ)
page_of (page b) = go b
page_of (refused number place) = stop
page_of (stopped place) = stop

-- without: THE DEFINITION of what page a text, event list and options give
unfoldable pub machine_of : (text : List ℕ) → Options → List Event → Outcome (List ℕ)
machine_of text o es = page_of (run_with (λ s. none) text o es)
