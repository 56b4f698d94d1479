-- A line of code between its virtual spaces. Assumes nothing.
use Rattle.std.specs.Prelude.{◌⊎◌}
use mathlib.Core.Path.{◌≡◌, ap}
use mathlib.Core.Bool.{true}
use mathlib.Core.List.{List, ◌++◌}
use Prim.Native.Nat.{ℕ, ◌-◌, ◌<◌}
use lib.ListN.{length, take, drop, replicate}
use Rattle.encode_byte.specs.declared.Escaping.{Escaping}
use Rattle.encode.specs.Encode.{encode_of}
use Rattle.event.specs.declared.Event.{Event}
use Rattle.machine.specs.State.{State}
use Rattle.machine.specs.Outcome.{go, ◌>>=◌}
use Rattle.machine.specs.Buffers.{push, escaping_now}
use Rattle.machine.specs.Turn.{Turn, own_str}
use Rattle.machine.specs.Command.{exec}
use Rattle.machine.specs.Words.{chunk}
use Rattle.machine.proofs.Outcomes.{joins}
use Rattle.machine_bounded.specs.Within.{one, within}
use Rattle.state_buffers.specs.declared.Buffers.{Buffers}
use Rattle.state_buffers.specs.Stand as Stand
use Rattle.state_context.specs.declared.Context.{Context}
use Rattle.state_context.specs.Rel.{Sees, Keeps, escaping_in}
use Rattle.state_context.proofs.Laws.{with_buffers}
use Rattle.state_context.proofs.Slices.{not-owned, owned-pushes}

abbrev spaced : Event → List ℕ → List ℕ
spaced e b = replicate e.before 32 ++ b ++ replicate e.after 32

abbrev encoded : Turn → State → List ℕ → List ℕ
encoded t s b = encode_of (escaping_now s) (spaced t.event b)

is-chunk : (t : Turn) (s : State) → within chunk t s ≡ one true (own_str t >>= λ b. go (push (encoded t s b) s))
unfolding exec within
is-chunk t s = ap (one true) (joins (own_str t) (encoded t s) (λ b. go (push b s)))

module _ (text : List ℕ) (e : Event) {c : Context} {w o : List ℕ} where
  pub no-chunk : (e.to.0 < e.from.0) ⊎ (length text < e.to.0) → Keeps (Sees text e) chunk c w o c w o
  no-chunk h = not-owned text e chunk encoded is-chunk h

  pub chunks : {z : List ℕ} {y : Escaping} {x : Buffers} {w' o' : List ℕ} → z ≡ take (e.to.0 - e.from.0) (drop e.from.0 text) → y ≡ escaping_in c.word → Stand.Keeps (push (encode_of y (spaced e z))) c.buffers w o x w' o'
      → Keeps (Sees text e) chunk c w o (with_buffers x c) w' o'
  chunks {z} {y} q a k = owned-pushes text e chunk encoded is-chunk a (encode_of y (spaced e z)) (λ t s v i. rw (i, q, ← v.event-is)) k
