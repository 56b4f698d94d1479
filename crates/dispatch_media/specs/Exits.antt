-- What the dispatcher of exits over the whole does. Assumes nothing.
use Rattle.std.specs.Prelude.{Bool, false, not, ◌&&◌, ◌||◌, List, ℕ, eqb, ltb}
use Rattle.event.specs.declared.Event.{Event}
use Rattle.machine.specs.declared.Options.{Options}
use Rattle.state_kept.specs.Kept.{Tables, tables}
use Rattle.state_whole.specs.declared.Whole.{Whole}
use Rattle.dispatch_turns.specs.Loud.{world, Shows, Acts}

-- its names: those whose exit has a command that is not quiet
abbrev pub exits_whole : ℕ → Bool
exits_whole n = ((eqb n 17 || eqb n 18) || ((ltb 44 n && ltb n 57) && not (eqb n 49))) || ((eqb n 62 || eqb n 63) || eqb n 65)

pub record ExitsWhole (text : List ℕ) (e : Event) (o : Options) (b : Whole) (work starts out : List ℕ) (t : Tables) (r : Whole) (work' out' : List ℕ) (t' : Tables) : Type 0 where
  pub exits : Acts false 0 255 text (Shows text o e) e b (world work out starts t) r (world work' out' starts t')

-- ---- by groups of names: no part of a promise

pub record ExitsSetext (text : List ℕ) (e : Event) (b : Whole) (work starts out : List ℕ) (r : Whole) (work' out' : List ℕ) : Type 0 where
  pub exits : (o : Options) (t : Tables) → Acts false 0 44 text (Shows text o e) e b (world work out starts t) r (world work' out' starts t)

pub record ExitsMedia (text : List ℕ) (e : Event) (o : Options) (b : Whole) (work starts out definitions : List ℕ) (r : Whole) (work' out' definitions' : List ℕ) : Type 0 where
  pub exits : (f c l : List ℕ) → Acts false 45 56 text (Shows text o e) e b (world work out starts (tables definitions f c l)) r (world work' out' starts (tables definitions' f c l))

pub record ExitsFootnote (text : List ℕ) (e : Event) (b : Whole) (work starts out footnotes calls labels : List ℕ) (r : Whole) (work' out' footnotes' calls' labels' : List ℕ) : Type 0 where
  pub exits : (o : Options) (d : List ℕ) → Acts false 57 255 text (Shows text o e) e b (world work out starts (tables d footnotes calls labels)) r (world work' out' starts (tables d footnotes' calls' labels'))
