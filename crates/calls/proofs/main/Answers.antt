-- An array of zeros is as long as its type says: no need to count them. Assumes nothing.
use mathlib.Core.Path.{sym}
use Prim.Native.Nat.{ℕ}
use Rattle.std.proofs.lemmas.List.{length-replicate}
use Rattle.calls.proofs.main.Goals as goal

pub slice_bounds-serve-end-2 : goal.slice_bounds-serve-end-2
slice_bounds-serve-end-2 g = sym (length-replicate {0} {A = ℕ} 524312 0)
