-- Both passes together, and the whole. Assumes nothing.
use Rattle.std.proofs.Common.{Result, Ok, Err, ◌≡◌, refl, sym, ap, subst, ◌∙◌, Bool, true, false, List, [], append-nil, ℕ, zero-le, le-ltb, length}
use Rattle.std.proofs.Math.Option.{none}
use Rattle.regions.specs.Sizes.{work_size}
use Rattle.event.specs.declared.EventIndex.{EventIndex}
use Rattle.event.specs.Event.{events_of}
use Rattle.event.proofs.Laws.{length-events}
use Rattle.machine.specs.declared.Options.{Options}
use Rattle.machine.specs.declared.Ending.{Ending}
use Rattle.machine.specs.declared.Fixed.{Fixed}
use Rattle.machine.specs.State.{State, start}
use Rattle.machine.specs.Outcome.{Outcome, stop, go}
use Rattle.machine.specs.Turn.{Turn}
use Rattle.machine.specs.Totals.{captured, held, kept, over}
use Rattle.machine.specs.Run.{Answer, refused, stopped, ending_of, fixed_of, are_begun, turns_of, run_from, run_with, run_of}
use Rattle.machine_bounded.specs.Within.{Goes, ends, turns}
use Rattle.run_line_ending.specs.Ending.{Finds}
use Rattle.state_kept.specs.Kept.{Long}
use Rattle.state_whole.specs.declared.Whole.{Whole}
use Rattle.state_whole.specs.Whole.{World}
use Rattle.dispatch_turns.specs.Passing.{turns_left}
use Rattle.run_answer.specs.declared.Full.{Full}
use Rattle.run_answer.specs.declared.Full.TheVariants as F
use Rattle.run_next.specs.Reach.{run, Stands}
use Rattle.run_pass.specs.Passing.{Passes}
use Rattle.run_to_html.specs.Renders.{Answers, Renders}
use Rattle.run_to_html.specs.Private.{Begun, Finishes, turns_from, FinishesAll}

-- ---- one pass after the other

goes_none : {u v : State} → Goes [] u v → u ≡ v
goes_none (ends s) = refl

module _ {text events : List ℕ} {o : Options} {b : Whole} {w w' : World} {p : Result Whole Full} where
  -- refused in a pass, the run is refused
  module _ {out : List ℕ} where
    pub first-full : (e : Full) → p ≡ Err e → Passes true text events o b w p w' → FinishesAll true text events o b w out (Err e)
    first-full (F.Work place) m x = let k = subst (λ q. Passes true text events o b w q w') m x in record { finishes = λ s v y g l. k.passes.refuses (turns_left false text events o false 0) s v y g }
    first-full (F.Page place) m x = let k = subst (λ q. Passes true text events o b w q w') m x in record { finishes = λ s v y g l. k.passes.refuses (turns_left false text events o false 0) s v y g }

    pub second-full : (e : Full) → p ≡ Err e → Passes false text events o b w p w' → FinishesAll false text events o b w out (Err e)
    second-full (F.Work place) m x = let k = subst (λ q. Passes false text events o b w q w') m x in record { finishes = λ s v y g l. let e = append-nil (turns_left false text events o false 0) in rw e at (k.passes.refuses [] s v y (rw e g)) }
    second-full (F.Page place) m x = let k = subst (λ q. Passes false text events o b w q w') m x in record { finishes = λ s v y g l. let e = append-nil (turns_left false text events o false 0) in rw e at (k.passes.refuses [] s v y (rw e g)) }

  module _ {c : Whole} {out : List ℕ} {r : Result ℕ Full} (m : p ≡ Ok c) (long : length w'.out ≡ length w.out) where
    pub first_on : Passes true text events o b w p w' → FinishesAll false text events o c w' out r → FinishesAll true text events o b w out r
    first_on x q = through (subst (λ y. Passes true text events o b w y w') m x)
      where
        through : Passes true text events o b w (Ok c) w' → FinishesAll true text events o b w out r
        through k = record {
          finishes = λ s v x g l.
              let f = k.passes.reaches (turns_left false text events o false 0) s v x g in
              let y = q.finishes f.0 v (rw long f.1) f.2 l in
              subst (λ a. Answers out r a) (sym f.3) (rw long at y);
        }

    pub second-on : Passes false text events o b w p w' → Finishes c text events w'.work w'.tables.footnotes w'.tables.calls w'.out out r → FinishesAll false text events o b w out r
    second-on x q = through (subst (λ y. Passes false text events o b w y w') m x)
      where
        through : Passes false text events o b w (Ok c) w' → FinishesAll false text events o b w out r
        through k = record {
          finishes = λ s v x g l.
              let e = append-nil (turns_left false text events o false 0) in
              let f = k.passes.reaches [] s v x (rw e g) in
              let i = goes_none f.2 in
              let y = q.finishes w' f.0 refl refl refl refl (rw long f.1) (rw i l) in
              subst (λ a. Answers out r a) (sym (rw e at f.3)) (rw long at y);
        }

-- ---- from the start

module _ (text events : List ℕ) (o : Options) (room : ℕ) where
  turns-are : turns_of text o (events_of events) ≡ turns_from true text events o
  unfolding turns_of turns_left
  turns-are = refl

  run_is : (x : Ending) → ending_of o.ending text (events_of events) ≡ go x → are_begun (events_of events) ≡ true → run_of text o room (events_of events) ≡ run events room (turns_from true text events o) (start (fixed_of o x))
  unfolding run_of run_with
  run_is x p q =
      ap (λ (e : Outcome Ending). elim e [ stop ↦ stopped 0 | go y ↦ elim (are_begun (events_of events)) [ true ↦ run_from (length (events_of events)) (over room) (turns_of text o (events_of events)) (start (fixed_of o y)) | false ↦ stopped 0 ] ]) p
      ∙ ap (λ (b : Bool). elim b [ true ↦ run_from (length (events_of events)) (over room) (turns_of text o (events_of events)) (start (fixed_of o x)) | false ↦ stopped 0 ]) q
      ∙ ap (λ (n : ℕ). run_from n (over room) (turns_of text o (events_of events)) (start (fixed_of o x))) (length-events events)
      ∙ ap (λ (ts : List Turn). run events room ts (start (fixed_of o x))) turns-are

  start-roomy : (x : Fixed) → over room (start x) ≡ none
  unfolding over captured held kept start
  start-roomy x = rw (le-ltb room 0 zero-le)

pub renders : {text events : List ℕ} {o : Options} {ending : Ending} {b : Whole} {w : World} {out : List ℕ} {r : Result ℕ Full}
    → Finds o.ending text events ending → Begun (fixed_of o ending) b → length w.work ≡ work_size → length w.starts ≡ 64 → Long w.tables → FinishesAll true text events o b w out r → Renders text events o w.out out r
renders {text} {events} {o} {ending} {b} {w} {out} {r} f k l n t q = record {
  renders = λ g.
      let e = f.finds g.ending g.found in
      let s : Stands text (length w.out) b w (start (fixed_of o g.ending)) = record { built = rw (← e) (k.begun text w l n t); long = refl; roomy = start-roomy text events o (length w.out) (fixed_of o g.ending) } in
      let y = q.finishes (start (fixed_of o g.ending)) g.last s (rw (← turns-are text events o (length w.out)) g.goes) (record { closed = g.closed; clean = g.clean; called = g.called }) in
      subst (λ a. Answers out r a) (sym (run_is text events o (length w.out) g.ending g.found g.begun)) y;
}
