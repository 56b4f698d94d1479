-- A pass over the events, one after the other, and what becomes of the run at each. Assumes nothing.
use Rattle.std.specs.Prelude.{if◌then◌else◌}
use mathlib.Core.Path.{◌≡◌, refl, sym, ap, ◌∙◌}
use mathlib.Core.Bool.{Bool, true, false, not, ◌&&◌, ◌||◌}
use mathlib.Core.List.{List, [], ◌∷◌, ◌++◌}
use mathlib.Core.Option.{Option, none, some}
use Prim.Native.Nat.{ℕ, suc, ◌+◌, ◌/◌, ◌≤◌, ◌<◌}
use native.Mathlib.Numerals.{add-one}
use native.Mathlib.Decide.{dec_le}
use native.Mathlib.Omega.{arith}
use borrow.Author.Tests.{eq-eqb, ne_eqb}
use lib.Dec.{eqb}
use lib.ListN.{length, drop}
use Rattle.event.specs.declared.Event.{Event}
use Rattle.event.specs.Event.{is_enter, named, event_at, events_of}
use Rattle.event.proofs.Laws.{length-events, events-next, events-end}
use Rattle.machine.specs.declared.Options.{Options}
use Rattle.machine.specs.State.{State}
use Rattle.machine.specs.Outcome.{Outcome, stop, go}
use Rattle.machine.specs.Turn.{Turn, is_exit}
use Rattle.machine.specs.Test.{is_empty}
use Rattle.machine.specs.Command.{exec}
use Rattle.machine.specs.Handlers.{command_of, handle}
use Rattle.machine.specs.Run.{pass_from, Answer, refused, stopped, run_from}
use Rattle.dispatch_look_back.specs.Behind.{events_before}
use Rattle.dispatch_turns.specs.Turns.{TurnAt}
use Rattle.dispatch_turns.specs.Passing.{turns_left, is_here, stays_inside, turn_at}

-- ---- the turns that are left

module _ (definitions : Bool) (text events : List ℕ) (o : Options) (inside : Bool) (i : ℕ) where
  pub left_end : length events / 20 ≤ i → turns_left definitions text events o inside i ≡ []
  unfolding turns_left pass_from
  left_end h = rw (events-end events i h)

  pub left-next : i < length events / 20
      → turns_left definitions text events o inside i
      ≡ (if (if definitions then is_here inside (event_at events i) else not (is_here inside (event_at events i))) then turn_at text events o i ∷ turns_left definitions text events o (stays_inside inside (event_at events i)) (i + 1)
      else turns_left definitions text events o (stays_inside inside (event_at events i)) (i + 1))
  unfolding turns_left pass_from is_here stays_inside turn_at
  left-next h = rw (events-next events i h, add-one)

pub turn_at_lem : (text events : List ℕ) (o : Options) (i : ℕ) → i < length events / 20 → TurnAt text events o i (turn_at text events o i)
unfolding turn_at
turn_at_lem text events o i h = record { text-is = refl; options-are = refl; event-is = refl; before-is = refl; last-is = last }
  where
    last : is_empty (drop (i + 1) (events_of events)) ≡ eqb (suc i) (length events / 20)
    last =
        elim (dec_le (length events / 20) (i + 1)) [
          | yes k ↦ let e : suc i ≡ length events / 20 = omega arith in rw (events-end events (i + 1) k, eq-eqb (suc i) (length events / 20) e)
          | no k ↦ let e : i + 1 < length events / 20 = omega arith in rw (events-next events (i + 1) e, ne_eqb (suc i) (length events / 20) (λ z. absurd (omega arith)))
        ]

-- ---- the run

module _ (n : ℕ) (limit : State → Option ℕ) (t : Turn) (ts : List Turn) where
  abbrev judged : State → Option ℕ → Answer
  judged u none = run_from n limit ts u
  judged u (some k) = refused k t.place

  abbrev stepped : Outcome State → Answer
  stepped stop = stopped t.place
  stepped (go u) = judged u (limit u)

  limited : (u : State) (m : Option ℕ) → elim m [ some number ↦ refused number t.place | none ↦ run_from n limit ts u ] ≡ judged u m
  limited u none = refl
  limited u (some k) = refl

  as-stepped : (x : Outcome State) → elim x [ stop ↦ stopped t.place | go u ↦ elim (limit u) [ some number ↦ refused number t.place | none ↦ run_from n limit ts u ] ] ≡ stepped x
  as-stepped stop = refl
  as-stepped (go u) = limited u (limit u)

  run_is : (s : State) (o : Outcome State) → handle t s ≡ o → run_from n limit (t ∷ ts) s ≡ stepped o
  unfolding run_from
  run_is s o p = as-stepped (handle t s) ∙ ap stepped p

  module _ (s u : State) (h : handle t s ≡ go u) where
    pub run-over : (k : ℕ) → limit u ≡ some k → run_from n limit (t ∷ ts) s ≡ refused k t.place
    run-over k q = run_is s (go u) h ∙ ap (judged u) q

    pub run_on : limit u ≡ none → run_from n limit (t ∷ ts) s ≡ run_from n limit ts u
    run_on q = run_is s (go u) h ∙ ap (judged u) q
