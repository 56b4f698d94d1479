-- On a text and events that the checker passes the machine never stops, within the code's tables and to its page. Assumes nothing.
use Rattle.std.proofs.Common.{Ok}
use mathlib.Core.Path.{◌≡◌, refl, ap, ◌∙◌}
use mathlib.Core.Bool.{Bool, true, false}
use mathlib.Core.List.{List, []}
use mathlib.Core.Option.{Option, none}
use Prim.Native.Nat.{ℕ}
use lib.ListN.{length}
use Rattle.event.specs.Event.{events_of}
use Rattle.check_rules.specs.Rules.{Meets}
use Rattle.check_rules.proofs.Meets.{yes-meets}
use Rattle.check_list.specs.Checked.{check_of}
use Rattle.machine.specs.declared.Options.{Options}
use Rattle.machine.specs.declared.Ending.{Ending}
use Rattle.machine.specs.Outcome.{go}
use Rattle.machine.specs.State.{State, start}
use Rattle.machine.specs.Turn.{Turn}
use Rattle.machine.specs.Handlers.{command_of, handle}
use Rattle.machine.specs.Test.{is_empty}
use Rattle.machine.specs.Section.{footnote_section}
use Rattle.machine.specs.Run.{ending_of, fixed_of, turns_of, page, page_of, section_end, finish, run_from, run_with, machine_of}
use Rattle.machine_bounded.specs.Within.{Goes, ends, turns}
use Rattle.machine_clean.proofs.Within.{within-exec}
use Rattle.machine_clean.specs.Clean.{Clean}
use Rattle.machine_clean.specs.Section.{Called}
use Rattle.machine_clean.proofs.Section.{section-goes}
use Rattle.machine_never.proofs.Whole.{ending-goes, begins, turns_go}

-- ---- the run without limits

abbrev no-limit : State → Option ℕ
no-limit s = none

run-goes : (n : ℕ) {ts : List Turn} {s v : State} → Goes ts s v → run_from n no-limit ts s ≡ finish n no-limit v
unfolding run_from handle
run-goes n (ends s) = refl
run-goes n (turns t {s = s} {u} w g) = rw (run_from, within-exec (command_of t) t s u w) (run-goes n g)

finish-goes : (n : ℕ) (v : State) → Clean v → Called v → (b : List ℕ) × (finish n no-limit v ≡ page b)
unfolding finish
finish-goes n v c k = at (is_empty v.kept.calls)
  where
    at : (x : Bool) → (b : List ℕ) × ((elim x [ true ↦ page v.page | false ↦ section_end n no-limit (footnote_section v) ]) ≡ page b)
    at true = (v.page, refl)
    at false = let r = section-goes v c k in (r.0.page, rw r.1 refl)

-- ---- demand 3

module _ (text events : List ℕ) (o : Options) (yes : check_of text events ≡ Ok tt) where
  rules-met : Meets text events
  rules-met = (yes-meets text events).0 yes

  -- the line ending is found, and within the code's tables the machine takes every turn
  pub goes : (ending : Ending) × (ending_of o.ending text (events_of events) ≡ go ending) × (v : State) × Goes (turns_of text o (events_of events)) (start (fixed_of o ending)) v × (v.captures ≡ [])
  goes =
      let e = ending-goes text events rules-met o.ending 0 [] (events_of events) (record { long = refl; same = refl }) in
      let q = turns_go text events rules-met o (fixed_of o e.0) in
      (e.0, e.1, q.0, q.1, q.2)

  -- and it ends in a page
  pub never : (b : List ℕ) × (machine_of text o (events_of events) ≡ go b)
  unfolding machine_of run_with
  never =
      let e = ending-goes text events rules-met o.ending 0 [] (events_of events) (record { long = refl; same = refl }) in
      let q = turns_go text events rules-met o (fixed_of o e.0) in
      let f = finish-goes (length (events_of events)) q.0 q.3 q.4 in
      let a : run_with no-limit text o (events_of events) ≡ page f.0 = rw (run_with, e.1, begins text events rules-met o) (run-goes (length (events_of events)) q.1 ∙ f.1) in
      (f.0, ap page_of a)
