-- What is set without a byte. Assumes nothing.
use mathlib.Core.Path.{◌≡◌}
use mathlib.Core.Bool.{true}
use mathlib.Core.List.{List}
use Prim.Native.Nat.{ℕ}
use Rattle.machine.specs.State.{State}
use Rattle.machine.specs.Outcome.{go}
use Rattle.machine.specs.Turn.{Turn}
use Rattle.machine.specs.Command.{Command}
use Rattle.state_buffers.specs.declared.Buffers.{Buffers}
use Rattle.state_buffers.specs.Stand.{Stand}
use Rattle.machine_bounded.specs.Within.{fitting, one, within}
use Rattle.machine_bounded.proofs.Bounds.{done}
use Rattle.state_context.specs.declared.Context.{Context}
use Rattle.state_context.specs.Rel.{Rel, Sets}

-- the buffers of a state that has the same page and captures
pub stands : {x : Buffers} {w st o : List ℕ} {s u : State} → Stand x w st o s → u.page ≡ s.page → u.captures ≡ s.captures → Stand x w st o u
stands h p q = record { page = rw p h.page; flat-is = rw q h.flat-is; depth = rw q h.depth; starts-are = rw q h.starts-are }

-- a command that is a function of the state, and touches no byte
pub setting : {d : Command} {c r : Context} (f : State → State)
    → ((t : Turn) (s : State) → within d t s ≡ one true (go (f s)))
    → ((w o b : List ℕ) (s : State) → fitting (f s) ≡ true → Rel c w o b s → Rel r w o b (f s))
    → Sets d c r
setting f e k =
    record {
      sets = λ w o. record {
        keeps = λ t b s u v x p. (let g = done true (go (f s)) u (rw (e t s) at p) in let h = g.went in let q : f s ≡ u = cc in rw (← q) (k w o b s (rw (← q) at g.fits) x));
      };
    }
