-- The states that the machine goes through are clean, and its page is UTF-8. Assumes nothing.
use mathlib.Core.Path.{◌≡◌, refl}
use mathlib.Core.Bool.{Bool, true, false}
use mathlib.Core.List.{List, [], ◌∷◌}
use mathlib.Core.Option.{Option, none, some}
use Prim.Native.Nat.{ℕ}
use lib.ListN.{length}
use Rattle.utf8.specs.Utf8.{is_utf8}
use Rattle.event.specs.declared.Event.{Event}
use Rattle.machine.specs.declared.Ending.{Ending}
use Rattle.machine.specs.declared.Options.{Options}
use Rattle.machine.specs.Outcome.{Outcome, stop, go}
use Rattle.machine.specs.State.{State, start}
use Rattle.machine.specs.Turn.{Turn}
use Rattle.machine.specs.Section.{footnote_section}
use Rattle.machine.specs.Test.{is_empty}
use Rattle.machine.specs.Handlers.{handle}
use Rattle.machine.specs.Totals.{over}
use Rattle.machine.specs.Run.{ending_of, fixed_of, are_begun, turns_of, Answer, page, refused, stopped, section_end, finish, run_from, run_with, run_of, page_of, machine_of}
use Rattle.machine_clean.specs.Clean.{Valid, Clean}
use Rattle.machine_clean.specs.Turns.{through}
use Rattle.machine_clean.proofs.Safe.{Safe, halts, goes, chain, result}
use Rattle.machine_clean.proofs.Pushed.{start-clean}
use Rattle.machine_clean.proofs.Handlers.{handled}
use Rattle.machine_clean.proofs.Appends.{still-clean}
use Rattle.machine_clean.proofs.Section.{section-appends}

-- ---- turns

through-safe : (ts : List Turn) {s : State} → Clean s → Safe Clean (through ts s)
unfolding through
through-safe [] c = goes c
through-safe (t ∷ ts) c = chain _ (handled t c) (λ u d. through-safe ts d)

pub through-keeps : (ts : List Turn) (s u : State) → Clean s → through ts s ≡ go u → Clean u
through-keeps ts s u c e = result Clean u (through-safe ts c) e

-- ---- the page

abbrev PageValid : Answer → Type 0
PageValid (page b) = Valid b
PageValid (refused number place) = Unit {0}
PageValid (stopped place) = Unit {0}

module _ (n : ℕ) (limit : State → Option ℕ) where
  end-valid : (o : Outcome State) → ((u : State) → o ≡ go u → Clean u) → PageValid (section_end n limit o)
  end-valid stop k = tt
  end-valid (go s) k = on (limit s)
    where
      on : (x : Option ℕ) → PageValid (elim x [ some number ↦ refused number n | none ↦ page s.page ])
      on (some number) = tt
      on none = (k s refl).page

  finish-valid : {s : State} → Clean s → PageValid (finish n limit s)
  unfolding finish
  finish-valid {s} c = on (is_empty s.kept.calls)
    where
      on : (x : Bool) → PageValid (elim x [ true ↦ page s.page | false ↦ section_end n limit (footnote_section s) ])
      on true = c.page
      on false = end-valid (footnote_section s) (λ u e. still-clean (section-appends s u c e) c)

  run-valid : (ts : List Turn) {s : State} → Clean s → PageValid (run_from n limit ts s)
  unfolding run_from
  run-valid [] c = finish-valid c
  run-valid (t ∷ ts) {s} c = on (handle t s) (handled t c) (λ u d. run-valid ts d)
    where
      limited : (u : State) (x : Option ℕ) → PageValid (run_from n limit ts u) → PageValid (elim x [ some number ↦ refused number t.place | none ↦ run_from n limit ts u ])
      limited u (some number) v = tt
      limited u none v = v

      on : (o : Outcome State) → Safe Clean o → ((u : State) → Clean u → PageValid (run_from n limit ts u))
          → PageValid (elim o [
            | stop ↦ stopped t.place
            | go u ↦ elim (limit u) [ some number ↦ refused number t.place | none ↦ run_from n limit ts u ]
          ])
      on stop x k = tt
      on (go u) (goes d) k = limited u (limit u) (k u d)

with-valid : (limit : State → Option ℕ) (text : List ℕ) (o : Options) (es : List Event) → PageValid (run_with limit text o es)
unfolding run_with
with-valid limit text o es = on (ending_of o.ending text es) (are_begun es)
  where
    on : (x : Outcome Ending) (begun : Bool) → PageValid (elim x [
      | stop ↦ stopped 0
      | go ending ↦ elim begun [ true ↦ run_from (length es) limit (turns_of text o es) (start (fixed_of o ending)) | false ↦ stopped 0 ]
    ])
    on stop begun = tt
    on (go ending) true = run-valid (length es) limit (turns_of text o es) (start-clean (fixed_of o ending))
    on (go ending) false = tt

-- a page that is answered is UTF-8, whatever the text and the events
pub run-utf8 : (text : List ℕ) (o : Options) (room : ℕ) (es : List Event) (b : List ℕ) → run_of text o room es ≡ page b → is_utf8 b ≡ true
unfolding run_of
run-utf8 text o room es b e = let v : PageValid (page b) = rw e at (with-valid (over room) text o es) in v.utf8

pub page-utf8 : (text : List ℕ) (o : Options) (es : List Event) (b : List ℕ) → machine_of text o es ≡ go b → is_utf8 b ≡ true
unfolding machine_of
page-utf8 text o es b e = (on (run_with (λ s. none) text o es) (with-valid (λ s. none) text o es) e).utf8
  where
    on : (a : Answer) → PageValid a → page_of a ≡ go b → Valid b
    on (page c) v p = let q : c ≡ b = cc in rw q at v
    on (refused number place) v p = result Valid b (halts tt) p
    on (stopped place) v p = result Valid b (halts tt) p
