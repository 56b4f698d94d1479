-- Whether something lacks room, and by which refusal. Assumes nothing.
use Rattle.std.specs.Prelude.{Option as CodeOption, Some, None}
use Rattle.std.specs.Prelude.{◌≡◌, List, ℕ, length}
use Rattle.std.proofs.Math.Option.{Option, none, some}
use Rattle.machine.specs.State.{State}
use Rattle.machine.specs.Totals.{over}
use Rattle.state_whole.specs.declared.Whole.{Whole}
use Rattle.state_whole.specs.declared.Shortage.{Shortage}
use Rattle.state_whole.specs.declared.Shortage.TheVariants as S
use Rattle.state_whole.specs.Whole.{World, Mirrors}

-- the refusal's number
abbrev pub refusal_of : CodeOption Shortage → Option ℕ
refusal_of None = none
refusal_of (Some S.Work) = some 8
refusal_of (Some S.Page) = some 9

pub record Lacks (b : Whole) (room : ℕ) (r : CodeOption Shortage) : Type 0 where
  pub lacks : (text : List ℕ) (w : World) (s : State) → length w.out ≡ room → Mirrors text b w s → over room s ≡ refusal_of r
