-- One command after the other, by what the first is lent. Assumes nothing.
use mathlib.Core.List.{List}
use Prim.Native.Nat.{ℕ}
use Rattle.machine.specs.Turn.{Turn}
use Rattle.machine.specs.Command.{Command, ◌▸◌}
use Rattle.state_whole.specs.declared.Whole.{Whole}
use Rattle.state_whole.specs.Whole.{Always, Unlent, FromStarts, OnStarts, OnWork, with_starts, with_work}
use Rattle.state_whole.proofs.Lifts.{then}

module _ {N : Whole → Type 0} {View : Turn → Type 0} {d e : Command} {b r q : Whole} where
  pub then-unlent : Unlent N View d b r → Unlent Always View e r q → Unlent N View (d ▸ e) b q
  then-unlent k l = record { unlent = λ text w. then (k.unlent text w) (l.unlent text w) (λ a. tt) }

  pub then-from-starts : {starts : List ℕ} → FromStarts N View d b starts r → Unlent Always View e r q → FromStarts N View (d ▸ e) b starts q
  then-from-starts k l = record { from-starts = λ text w i. then (k.from-starts text w i) (l.unlent text w) (λ a. tt) }

  pub then-on-starts : {starts starts' : List ℕ} → OnStarts N View d b starts r starts' → Unlent Always View e r q → OnStarts N View (d ▸ e) b starts q starts'
  then-on-starts {starts' = starts'} k l = record { on-starts = λ text w i. then (k.on-starts text w i) (l.unlent text (with_starts starts' w)) (λ a. tt) }

  pub then-on-work : {work starts work' : List ℕ} → OnWork N View d b work starts r work' → Unlent Always View e r q → OnWork N View (d ▸ e) b work starts q work'
  then-on-work {work' = work'} k l = record { on-work = λ text w i j. then (k.on-work text w i j) (l.unlent text (with_work work' w)) (λ a. tt) }
