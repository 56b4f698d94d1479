-- A function of the context that is lent nothing, as a handler of the whole. Assumes nothing.
use mathlib.Core.Path.{◌≡◌, refl}
use mathlib.Core.Bool.{true}
use mathlib.Core.List.{List}
use Prim.Native.Nat.{ℕ}
use lib.ListN.{take, take-append-drop}
use Rattle.regions.specs.Sizes.{region_size}
use Rattle.machine.specs.Turn.{Turn}
use Rattle.machine.specs.Command.{Command}
use Rattle.state_context.specs.declared.Context.{Context}
use Rattle.state_context.specs.Rel.{Sets}
use Rattle.state_context.proofs.Commands.{sets}
use Rattle.state_whole.specs.declared.Whole.{Whole}
use Rattle.state_whole.specs.Quiet.{is_quiet}
use Rattle.state_whole.specs.Whole.{World, Always, Handles, Unlent, with_context, with_starts, with_bytes}
use Rattle.state_whole.proofs.Lifts.{lifts}

-- the captures as they were
unchanged : {text : List ℕ} {N : Whole → Type 0} {View : Turn → Type 0} {d : Command} {b r : Whole} {w : World} → Handles text N View d b w r (with_starts w.starts (with_bytes (take region_size w.work) w.out w)) → Handles text N View d b w r w
unchanged {w = w} k = let e = take-append-drop region_size w.work in rw e at k

pub sets-whole : {View : Turn → Type 0} {d : Command} {b : Whole} {x : Context} → is_quiet d ≡ true → Sets d b.context x → Unlent Always View d b (with_context x b)
sets-whole q k = record { unlent = λ text w. unchanged (lifts q (sets k) refl refl refl) }
