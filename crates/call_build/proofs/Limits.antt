-- A page that is given under limits is the page without them. Assumes nothing.
use mathlib.Core.Path.{◌≡◌, ap}
use mathlib.Core.Bool.{Bool, true, false}
use mathlib.Core.List.{List, [], ◌∷◌}
use mathlib.Core.Option.{Option, none, some}
use Prim.Native.Nat.{ℕ}
use native.Mathlib.Omega.{arith}
use lib.ListN.{length}
use Rattle.event.specs.declared.Event.{Event}
use Rattle.machine.specs.declared.Options.{Options}
use Rattle.machine.specs.declared.Ending.{Ending}
use Rattle.machine.specs.Outcome.{Outcome, stop, go}
use Rattle.machine.specs.State.{State, start}
use Rattle.machine.specs.Turn.{Turn}
use Rattle.machine.specs.Test.{is_empty}
use Rattle.machine.specs.Section.{footnote_section}
use Rattle.machine.specs.Handlers.{handle}
use Rattle.machine.specs.Totals.{over}
use Rattle.machine.specs.Run.{page, refused, stopped, page_of, ending_of, fixed_of, are_begun, turns_of, section_end, finish, run_from, run_with, run_of, machine_of}

abbrev free : State → Option ℕ
free s = none

no-page : {A : Type 0} {b : List ℕ} {number place : ℕ} → refused number place ≡ page b → A
no-page e = let z : ◌≡◌ {A = ℕ} 0 1 = cc in absurd (omega arith)

no_stop : {A : Type 0} {b : List ℕ} {place : ℕ} → stopped place ≡ page b → A
no_stop e = let z : ◌≡◌ {A = ℕ} 0 1 = cc in absurd (omega arith)

module _ (n : ℕ) (limit : State → Option ℕ) (b : List ℕ) where
  section-free : (x : Outcome State) → section_end n limit x ≡ page b → section_end n free x ≡ page b
  section-free stop e = no_stop e
  section-free (go s) e = on (limit s) e
    where
      on : (x : Option ℕ) → (elim x [ some number ↦ refused number n | none ↦ page s.page ]) ≡ page b → page s.page ≡ page b
      on (some number) e = no-page e
      on none e = e

  finish-free : (s : State) → finish n limit s ≡ page b → finish n free s ≡ page b
  unfolding finish
  finish-free s e = on (is_empty s.kept.calls) e
    where
      on : (x : Bool) → (elim x [ true ↦ page s.page | false ↦ section_end n limit (footnote_section s) ]) ≡ page b
          → (elim x [ true ↦ page s.page | false ↦ section_end n free (footnote_section s) ]) ≡ page b
      on true e = e
      on false e = section-free (footnote_section s) e

  run-free : (ts : List Turn) (s : State) → run_from n limit ts s ≡ page b → run_from n free ts s ≡ page b
  unfolding run_from
  run-free [] s e = finish-free s e
  run-free (t ∷ ts) s e = on (handle t s) (λ u f. run-free ts u f) e
    where
      limited : (u : State) (x : Option ℕ) → (elim x [ some number ↦ refused number t.place | none ↦ run_from n limit ts u ]) ≡ page b → run_from n limit ts u ≡ page b
      limited u (some number) e = no-page e
      limited u none e = e

      on : (x : Outcome State) → ((u : State) → run_from n limit ts u ≡ page b → run_from n free ts u ≡ page b)
          → (elim x [
            | stop ↦ stopped t.place
            | go u ↦ elim (limit u) [ some number ↦ refused number t.place | none ↦ run_from n limit ts u ]
          ])
          ≡ page b
          → (elim x [ stop ↦ stopped t.place | go u ↦ run_from n free ts u ]) ≡ page b
      on stop k e = no_stop e
      on (go u) k e = k u (limited u (limit u) e)

with-free : (limit : State → Option ℕ) (text : List ℕ) (o : Options) (es : List Event) (b : List ℕ) → run_with limit text o es ≡ page b → run_with free text o es ≡ page b
unfolding run_with
with-free limit text o es b e = on (ending_of o.ending text es) (are_begun es) e
  where
    on : (x : Outcome Ending) (begun : Bool)
        → (elim x [ stop ↦ stopped 0 | go ending ↦ elim begun [ true ↦ run_from (length es) limit (turns_of text o es) (start (fixed_of o ending)) | false ↦ stopped 0 ] ]) ≡ page b
        → (elim x [ stop ↦ stopped 0 | go ending ↦ elim begun [ true ↦ run_from (length es) free (turns_of text o es) (start (fixed_of o ending)) | false ↦ stopped 0 ] ]) ≡ page b
    on stop begun e = no_stop e
    on (go ending) true e = run-free (length es) limit b (turns_of text o es) (start (fixed_of o ending)) e
    on (go ending) false e = no_stop e

pub no-limit : (text : List ℕ) (o : Options) (room : ℕ) (es : List Event) (b : List ℕ) → run_of text o room es ≡ page b → machine_of text o es ≡ go b
unfolding run_of machine_of
no-limit text o room es b e = ap page_of (with-free (over room) text o es b e)
