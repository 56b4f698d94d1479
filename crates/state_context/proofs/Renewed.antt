-- A capture that is opened, and what goes before or behind it. Assumes nothing.
use mathlib.Core.List.{List}
use Prim.Native.Nat.{ℕ}
use Rattle.machine.specs.Command.{Command, ◌▸◌}
use Rattle.machine.proofs.Outcomes.{first_goes}
use Rattle.machine_bounded.specs.Within.{within}
use Rattle.state_context.specs.declared.Context.{Context}
use Rattle.state_context.specs.Rel.{Sets, Begins, Ends, Renews}

-- a capture is opened, and something set behind it
pub begins-first : {d e : Command} {c r q : Context} {starts starts' : List ℕ} → Begins d c starts r starts' → Sets e r q → Begins (d ▸ e) c starts q starts'
unfolding within
begins-first {d} {e} {starts' = starts'} k l =
    record {
      begins = λ w o. record {
        opens = λ t s u v n x p. (let f = first_goes (within d t s) (λ y. within e t y) u p in (l.sets w o).keeps t starts' f.0 u v ((k.begins w o).opens t s f.0 v n x f.1) f.2);
      };
    }

-- a capture is taken off, and another opened
pub renewed : {d e : Command} {c r q : Context} {starts starts' : List ℕ} → Ends d c starts r → Begins e r starts q starts' → Renews (d ▸ e) c starts q starts'
unfolding within
renewed {d} {e} k l =
    record {
      renews = λ w o. record {
        turns = λ t s u v m n x p. (let f = first_goes (within d t s) (λ y. within e t y) u p in (l.begins w o).opens t f.0 u v n ((k.ends w o).takes t s f.0 v m x f.1) f.2);
      };
    }
