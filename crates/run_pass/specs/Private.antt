-- Where a pass stands: no part of a promise. Assumes nothing.
use Rattle.std.specs.Prelude.{Option, Some, None, Err, is_none, ◌≡◌, Bool, true, false, List, ℕ, ◌-◌, ◌≤◌}
use Rattle.event.specs.declared.EventIndex.{EventIndex}
use Rattle.machine.specs.declared.Options.{Options}
use Rattle.state_whole.specs.declared.Whole.{Whole}
use Rattle.state_whole.specs.declared.Shortage.{Shortage}
use Rattle.state_whole.specs.declared.Shortage.TheVariants as S
use Rattle.state_whole.specs.Whole.{World}
use Rattle.run_next.specs.Walks.{Steps}
use Rattle.run_answer.specs.declared.Full.{Full}
use Rattle.run_answer.specs.declared.Full.TheVariants as F
use Rattle.run_pass.specs.Passing.{Passes}

-- where something lacks room
abbrev pub full_of : Option Shortage → EventIndex → Full
full_of None place = F.Page place
full_of (Some S.Work) place = F.Work place
full_of (Some S.Page) place = F.Page place

-- where a pass stands before the event at i: it goes on, or there is no room after the one before it
pub record Stays (first : Bool) (text events : List ℕ) (o : Options) (b : Whole) (w : World) (inside : Bool) (i : ℕ) (lack : Option Shortage) (r : Whole) (w' : World) : Type 0 where
  pub on : is_none lack ≡ true → Steps first text events o b w inside i r w'
  pub past : is_none lack ≡ false → 1 ≤ i
  pub over : is_none lack ≡ false → Passes first text events o b w (Err (full_of lack (record { 0 = i - 1 }))) w'
