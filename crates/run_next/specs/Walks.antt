-- Where a pass stands, and what it leaves out: no part of a promise. Assumes nothing.
use Rattle.std.specs.Prelude.{◌≡◌, Bool, true, false, List, ℕ, ◌≤◌, ◌<◌, length}
use Rattle.machine.specs.declared.Options.{Options}
use Rattle.state_whole.specs.declared.Whole.{Whole}
use Rattle.state_whole.specs.Whole.{World}
use Rattle.dispatch_turns.specs.Passing.{turns_left}
use Rattle.event.specs.declared.Event.{Event}
use Rattle.event.specs.Event.{count_of, event_at}
use Rattle.machine.specs.Command.{nothing}
use Rattle.dispatch_turns.specs.Turns.{command_for}
use Rattle.run_next.specs.declared.Place.{Place}
use Rattle.run_next.specs.Reach.{Reaches, wanted}

-- from b on, r stands before the event at i
pub record Steps (first : Bool) (text events : List ℕ) (o : Options) (b : Whole) (w : World) (inside : Bool) (i : ℕ) (r : Whole) (w' : World) : Type 0 where
  pub reached : Reaches text events (length w.out) (turns_left first text events o false 0) (turns_left first text events o inside i) b w r w'
  pub long : length w'.out ≡ length w.out

-- nothing is to be done at an event, or it is the pass's
pub record PassesOver (first inside : Bool) (e : Event) (r : Bool) : Type 0 where
  pub left : r ≡ true → wanted first inside e ≡ true → command_for e ≡ nothing
  pub taken : r ≡ false → wanted first inside e ≡ true

-- nothing is to be done at the events from i up to j
pub record Walks (first : Bool) (events : List ℕ) (inside : Bool) (i : ℕ) (inside' : Bool) (j : ℕ) : Type 0 where
  pub goes : {text : List ℕ} {o : Options} {b : Whole} {w : World} {r : Whole} {w' : World} → Steps first text events o b w inside i r w' → Steps first text events o b w inside' j r w'
  pub later : i ≤ j

-- and something is at r, where there is an event
pub record Ahead (first : Bool) (events : List ℕ) (p r : Place) : Type 0 where
  pub walks : Walks first events p.inside p.at r.inside r.at
  pub here : r.at < count_of events → wanted first r.inside (event_at events r.at) ≡ true
