-- On a checked note the run under limits gives a page, 8 or 9: it never stops. Assumes nothing.
use Rattle.std.proofs.Common.{◌≡◌, Bool, true, false, ◌||◌, List, ℕ, ltb, length, if◌then◌else◌, Ok}
use mathlib.Core.Option.{Option, none, some}
use Rattle.event.specs.Event.{events_of}
use Rattle.check_list.specs.Checked.{check_of}
use Rattle.machine.specs.declared.Options.{Options}
use Rattle.machine.specs.State.{State}
use Rattle.machine.specs.Turn.{Turn}
use Rattle.machine.specs.Handlers.{command_of, handle}
use Rattle.machine.specs.Test.{is_empty}
use Rattle.machine.specs.Totals.{captured, held, kept, over, most_total}
use Rattle.machine.specs.Section.{footnote_section}
use Rattle.machine.specs.Run.{Answer, page, refused, section_end, finish, run_from, run_with, run_of}
use Rattle.machine_bounded.specs.Within.{Goes, ends, turns}
use Rattle.machine_clean.proofs.Within.{within-exec}
use Rattle.machine_clean.specs.Clean.{Clean}
use Rattle.machine_clean.specs.Section.{Called}
use Rattle.machine_clean.proofs.Section.{section-goes}
use Rattle.call_build.proofs.Laws.{runs}

pub data Given : Answer → Type 0 where
  a-page : (b : List ℕ) → Given (page b)
  work-full : (place : ℕ) → Given (refused 8 place)
  page-full : (place : ℕ) → Given (refused 9 place)

abbrev limit : Bool → Bool → Option ℕ
limit x y = if x then some 8 else (if y then some 9 else none)

module _ (room n : ℕ) where
  -- within the limits it goes on
  limited : (u : State) (place : ℕ) (rest : Answer) → Given rest → Given (elim (over room u) [ some number ↦ refused number place | none ↦ rest ])
  unfolding over
  limited u place rest g = on (ltb most_total (captured u) || ltb most_total (held u) || ltb most_total (kept u)) (ltb room (length u.page))
    where
      on : (x y : Bool) → Given (elim (limit x y) [ some number ↦ refused number place | none ↦ rest ])
      on true y = work-full place
      on false true = page-full place
      on false false = g

  finish-given : (v : State) → Clean v → Called v → Given (finish n (over room) v)
  unfolding finish
  finish-given v c k = at (is_empty v.kept.calls)
    where
      at : (x : Bool) → Given (elim x [ true ↦ page v.page | false ↦ section_end n (over room) (footnote_section v) ])
      at true = a-page v.page
      at false = let r = section-goes v c k in rw r.1 (limited r.0 n (page r.0.page) (a-page r.0.page))

  run-given : {ts : List Turn} {s v : State} → Goes ts s v → Clean v → Called v → Given (run_from n (over room) ts s)
  unfolding run_from handle
  run-given (ends s) c k = finish-given s c k
  run-given (turns t {ts = ts} {s = s} {u} w g) c k = rw (run_from, within-exec (command_of t) t s u w) (limited u t.place (run_from n (over room) ts u) (run-given g c k))

pub given : (text events : List ℕ) (o : Options) (room : ℕ) → check_of text events ≡ Ok tt → Given (run_of text o room (events_of events))
unfolding run_of run_with
given text events o room y =
    let r = runs text events o y in
    rw (run_with, r.found, r.begun) (run-given room (length (events_of events)) r.goes r.clean r.called)
