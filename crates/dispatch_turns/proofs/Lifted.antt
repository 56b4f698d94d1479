-- A dispatcher of the context as one of the whole, for quiet commands. Assumes nothing.
use mathlib.Core.Path.{◌≡◌, sym, ap, ◌∙◌}
use mathlib.Core.Bool.{true}
use mathlib.Core.List.{List}
use Prim.Native.Nat.{ℕ, ◌≤◌}
use native.Mathlib.Omega.{arith}
use lib.ListN.{length, take}
use Rattle.regions.specs.Sizes.{region_size}
use Rattle.machine.specs.Turn.{Turn}
use Rattle.machine.specs.Command.{Command}
use Rattle.state_context.specs.declared.Context.{Context}
use Rattle.state_whole.specs.declared.Whole.{Whole}
use Rattle.state_whole.specs.Quiet.{is_quiet}
use Rattle.state_whole.specs.Whole.{World, Roomy, Handles, with_context, with_starts, with_bytes}
use Rattle.state_whole.proofs.Parts.{front_long}
use Rattle.state_whole.proofs.Lifts.{kept_on}
use Rattle.state_context.specs.Rel.{Turns}

pub lifts-turns : {text : List ℕ} {View : Turn → Type 0} {d : Command} {b : Whole} {w : World} {x : Context} {captures starts out captures' starts' out' : List ℕ} → is_quiet d ≡ true
    → Turns View d b.context captures starts out x captures' starts' out' → take region_size w.work ≡ captures → w.starts ≡ starts → w.out ≡ out → length captures' ≡ length captures → length starts' ≡ length starts
    → Handles text Roomy View d b w (with_context x b) (with_starts starts' (with_bytes captures' out' w))
lifts-turns {d = d} {w = w} {captures = captures} {captures' = captures'} {starts' = starts'} {out' = out'} q k i h j l n = record {
  handles = λ t s u v a y p.
      let m = a.captures in
      let z : length captures ≡ region_size = ap length (sym i) ∙ front_long w.work y.long in
      kept_on d q {captures = captures'} {out = out'} {starts = starts'} (l ∙ z) (n ∙ ap length (sym h) ∙ y.places) t s u y p
      (k.turns t s u v (omega arith) (rw (← h) y.places) (rw (← i, ← h, ← j) y.context) p);
}
