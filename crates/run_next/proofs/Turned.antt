-- The machine's run over one turn of a pass. Assumes nothing.
use mathlib.Core.Path.{◌≡◌, refl, sym, ap, subst, ◌∙◌}
use mathlib.Core.Bool.{Bool, true, false}
use mathlib.Core.List.{List, ◌∷◌, ◌++◌}
use mathlib.Core.Option.{none}
use Prim.Native.Nat.{ℕ, ◌+◌, ◌/◌, ◌<◌}
use native.Mathlib.Omega.{arith}
use lib.ListN.{length}
use Rattle.event.specs.declared.Event.{Event}
use Rattle.event.specs.Event.{event_at}
use Rattle.machine.specs.declared.Options.{Options}
use Rattle.machine.specs.State.{State}
use Rattle.machine.specs.Outcome.{go}
use Rattle.machine.specs.Turn.{Turn}
use Rattle.machine.specs.Command.{Command, nothing, exec}
use Rattle.machine.specs.Handlers.{command_of, handle}
use Rattle.machine.specs.Totals.{over}
use Rattle.machine_bounded.specs.Within.{within, Goes, ends, turns}
use Rattle.machine_clean.proofs.Within.{within-exec}
use Rattle.state_whole.specs.declared.Whole.{Whole}
use Rattle.state_whole.specs.Whole.{World, Mirrors}
use Rattle.dispatch_turns.specs.Turns.{command_for}
use Rattle.dispatch_turns.specs.Loud.{Spare, Turned}
use Rattle.dispatch_turns.specs.Passing.{turns_left, stays_inside, turn_at}
use Rattle.dispatch_turns.proofs.Turns.{command-of}
use Rattle.dispatch_turns.proofs.Passing.{left-next, turn_at_lem, run_on}
use Rattle.state_whole.proofs.Lacking.{placed}
use Rattle.state_whole.proofs.Over.{none_over}
use Rattle.run_next.specs.Reach.{run, Stands, Reaches, wanted}

spare : {text : List ℕ} {room : ℕ} {b : Whole} {w : World} (s : State) → Stands text room b w s → Spare b
spare {text} {room} {b} {w} s x =
    let p = placed text b w s room x.long x.built in
    let q = none_over room s x.roomy in
    let a = p.captures in
    let c = q.captures in
    let d = p.held-is in
    let e = q.held-is in
    let f = p.kept-is in
    let g = q.kept-is in
    record { roomy = record { captures = omega arith; held = omega arith }; kept = omega arith }

-- ---- one turn

same-go : {s u : State} → go s ≡ go u → s ≡ u
same-go p = cc

goes_first : {t : Turn} {ts : List Turn} {s v : State} → Goes (t ∷ ts) s v → (u : State) × (within (command_of t) t s ≡ go u) × Goes ts u v
goes_first (turns t {u = u} p g) = (u, p, g)

module _ {text events : List ℕ} {o : Options} {room i : ℕ} {r q : Whole} {w' w'' : World} (h : i < length events / 20) (k : Turned text events o i r w' q w'') where
  -- the machine goes on, and the code with it
  goes_on : (u v : State) (ts : List Turn) → Stands text room r w' u → Goes (turn_at text events o i ∷ ts) u v
      → (x : State) × Mirrors text q w'' x × (handle (turn_at text events o i) u ≡ go x) × Goes ts x v
  unfolding handle
  goes_on u v ts y g =
      let t = turn_at text events o i in
      let f = goes_first g in
      let at = turn_at_lem text events o i h in
      let c = command-of t (event_at events i) at.event-is in
      (f.0, k.turned.handles t u f.0 at (spare u y) y.built (rw c at f.1), within-exec (command_of t) t u f.0 f.1, f.2)

-- ---- the turns that are left

module _ (definitions : Bool) {text events : List ℕ} (o : Options) {room : ℕ} {before : List Turn} {b : Whole} {w : World} (inside : Bool) (i : ℕ) {r : Whole} {w' : World} (h : i < length events / 20)
    (x : Reaches text events room before (turns_left definitions text events o inside i) b w r w') where
  pub skips : wanted definitions inside (event_at events i) ≡ false → Reaches text events room before (turns_left definitions text events o (stays_inside inside (event_at events i)) (i + 1)) b w r w'
  skips p =
      let e = left-next definitions text events o inside i h in
      let z : turns_left definitions text events o inside i ≡ turns_left definitions text events o (stays_inside inside (event_at events i)) (i + 1) = rw p at e in
      rw (← z) x

  -- the machine's state after the turn, its run, and the code's state
  pub turned : wanted definitions inside (event_at events i) ≡ true → {q : Whole} {w'' : World} → Turned text events o i r w' q w'' → (rest : List Turn) (s v : State) → Stands text room b w s → Goes (before ++ rest) s v
      → (u y : State) × Mirrors text q w'' y × (handle (turn_at text events o i) u ≡ go y) × Goes (turns_left definitions text events o (stays_inside inside (event_at events i)) (i + 1) ++ rest) y v × Stands text room r w' u
      × (run events room (before ++ rest) s ≡ run events room (turn_at text events o i ∷ (turns_left definitions text events o (stays_inside inside (event_at events i)) (i + 1) ++ rest)) u)
  turned p k rest s v y g =
      let e = left-next definitions text events o inside i h in
      let z : turns_left definitions text events o inside i ≡ turn_at text events o i ∷ turns_left definitions text events o (stays_inside inside (event_at events i)) (i + 1) = rw p at e in
      let f = x.reaches rest s v y g in
      let g' : Goes (turn_at text events o i ∷ (turns_left definitions text events o (stays_inside inside (event_at events i)) (i + 1) ++ rest)) f.0 v = rw z at f.2 in
      let a = goes_on h k f.0 v (turns_left definitions text events o (stays_inside inside (event_at events i)) (i + 1) ++ rest) f.1 g' in
      (f.0, a.0, a.1, a.2, a.3, f.1, rw z at f.3)

module _ (definitions : Bool) {text events : List ℕ} (o : Options) {room : ℕ} {before : List Turn} {b : Whole} {w : World} (inside : Bool) (i : ℕ) {r : Whole} {w' : World} (h : i < length events / 20)
    (x : Reaches text events room before (turns_left definitions text events o inside i) b w r w') (n : command_for (event_at events i) ≡ nothing) where
  idle : Turned text events o i r w' r w'
  unfolding exec
  idle = record { turned = rw n (record { handles = λ t s u v a y p. subst (λ z. Mirrors text r w' z) (same-go (within-exec nothing t s u p)) y }) }

  -- nothing is done at it
  pub stays-so : wanted definitions inside (event_at events i) ≡ true → Reaches text events room before (turns_left definitions text events o (stays_inside inside (event_at events i)) (i + 1)) b w r w'
  unfolding handle exec
  stays-so p = record {
    reaches = λ rest s v y g.
        let a = turned definitions o inside i h x p idle rest s v y g in
        let t = turn_at text events o i in
        let c = command-of t (event_at events i) (turn_at_lem text events o i h).event-is ∙ n in
        let q : a.0 ≡ a.1 = same-go (ap (λ (d : Command). exec d t a.0) (sym c) ∙ a.3) in
        let e : over room a.1 ≡ none = rw q at a.5.roomy in
        let z = run_on (length events / 20) (over room) t (turns_left definitions text events o (stays_inside inside (event_at events i)) (i + 1) ++ rest) a.0 a.1 a.3 e in
        (a.1, record { built = a.2; long = a.5.long; roomy = e }, a.4, a.6 ∙ z);
  }
