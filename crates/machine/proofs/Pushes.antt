-- Nothing pushed, and two texts pushed one behind the other. Assumes nothing.
use mathlib.Core.Path.{◌≡◌}
use mathlib.Core.List.{List, [], ◌∷◌, ◌++◌, append-nil, append_assoc}
use Prim.Native.Nat.{ℕ}
use Rattle.machine.specs.State.{State}
use Rattle.machine.specs.Set.{set_captures}
use Rattle.machine.specs.Buffers.{push}

none_in : (cs : List (List ℕ)) (s : State) → push [] (set_captures cs s) ≡ set_captures cs s
unfolding push
none_in [] s = rw append-nil
none_in (c ∷ cs) s = rw append-nil

pub push-none : (s : State) → push [] s ≡ s
push-none s = none_in s.captures s

both-in : (a b : List ℕ) (cs : List (List ℕ)) (s : State) → push b (push a (set_captures cs s)) ≡ push (a ++ b) (set_captures cs s)
unfolding push
both-in a b [] s = rw append_assoc
both-in a b (c ∷ cs) s = rw append_assoc

pub push-both : (a b : List ℕ) (s : State) → push b (push a s) ≡ push (a ++ b) s
push-both a b s = both-in a b s.captures s
