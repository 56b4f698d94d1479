-- Within the code's tables the machine goes on as the machine itself does: its states are clean too. Assumes nothing.
use mathlib.Core.Path.{◌≡◌, refl}
use mathlib.Core.Bool.{Bool, true, false}
use mathlib.Core.List.{List}
use mathlib.Core.Option.{Option, none, some}
use Prim.Native.Nat.{ℕ, zero, suc, ◌-◌}
use lib.ListN.{length}
use Rattle.machine.specs.Outcome.{Outcome, stop, go, ◌>>=◌, need}
use Rattle.machine.specs.State.{State}
use Rattle.machine.specs.Turn.{Turn}
use Rattle.machine.specs.Test.{test}
use Rattle.machine.specs.Command.{Command, nothing, step, ◌▸◌, whether, missing_cells, perform, repeat, exec}
use Rattle.machine.specs.Handlers.{command_of}
use Rattle.machine_bounded.specs.Within.{fitting, one, in_order, within, Goes, ends, turns}
use Rattle.machine_clean.specs.Clean.{Clean}
use Rattle.machine_clean.proofs.Safe.{Safe, stops, goes, chain, result}
use Rattle.machine_clean.proofs.Commands.{keeps}
use Rattle.machine_clean.proofs.Handlers.{command-ours}

-- wherever f goes on, g goes on with the same
abbrev Follows : (f g : Outcome State) → Type 0
Follows f g = Safe (λ u. g ≡ go u) f

-- ---- what a command is made of

one-is : (x : Bool) (o : Outcome State) → Follows (one x o) o
one-is false o = stops
one-is true stop = stops
one-is true (go u) = on (fitting u)
  where
    on : (x : Bool) → Follows (elim x [ true ↦ go u | false ↦ stop ]) (go u)
    on true = goes refl
    on false = stops

behind : (f g : State → Outcome State) {o p : Outcome State} → Follows o p → ((u : State) → Follows (f u) (g u)) → Follows (o >>= f) (p >>= g)
behind f g a k = chain f a (λ u e. rw e (k u))

choice : (x : Outcome Bool) {a b c d : Outcome State} → Follows a c → Follows b d → Follows (x >>= elim [ true ↦ a | false ↦ b ]) (x >>= elim [ true ↦ c | false ↦ d ])
choice stop p q = stops
choice (go true) p q = p
choice (go false) p q = q

repeats : (n : ℕ) (f g : State → Outcome State) → ((u : State) → Follows (f u) (g u)) → (s : State) → Follows (repeat n f s) (repeat n g s)
repeats zero f g k s = goes refl
repeats (suc n) f g k s = behind (repeat n f) (repeat n g) (k s) (repeats n f g k)

-- in each column that is missing
cells : (l : Option (List ℕ)) (k : ℕ) (f g : State → Outcome State) → ((u : State) → Follows (f u) (g u)) → (s : State)
    → Follows (need l >>= λ aligns. repeat (length aligns - k) f s) (need l >>= λ aligns. repeat (length aligns - k) g s)
cells none k f g h s = stops
cells (some l) k f g h s = repeats (length l - k) f g h s

-- ---- each command

follows : (c : Command) (t : Turn) (s : State) → Follows (within c t s) (exec c t s)
unfolding within exec
follows nothing t s = one-is true (go s)
follows (step x) t s = one-is (in_order x s) (perform x t s)
follows (c ▸ d) t s = behind (λ u. within d t u) (λ u. exec d t u) (follows c t s) (λ u. follows d t u)
follows (whether q c d) t s = choice (test q t s) (follows c t s) (follows d t s)
follows (missing_cells c) t s = cells s.table.aligns s.table.column (λ u. within c t u) (λ u. exec c t u) (λ u. follows c t u) s

pub within-exec : (c : Command) (t : Turn) (s u : State) → within c t s ≡ go u → exec c t s ≡ go u
within-exec c t s u e = result (λ u. exec c t s ≡ go u) u (follows c t s) e

-- ---- a list of turns

pub goes-clean : {ts : List Turn} {s u : State} → Goes ts s u → Clean s → Clean u
goes-clean (ends s) c = c
goes-clean (turns t {s = s} {u = u} e g) c = goes-clean g (keeps (command_of t) (command-ours t) t s u c (within-exec (command_of t) t s u e))
