-- What writing does to the relation, and how commands go together. Assumes nothing.
use mathlib.Core.Path.{◌≡◌, refl, sym, ap, ◌∙◌}
use mathlib.Core.Bool.{true}
use mathlib.Core.List.{List, [], ◌∷◌}
use Prim.Native.Nat.{ℕ}
use lib.ListN.{length}
use Rattle.machine.specs.declared.Ending.{Ending}
use Rattle.machine.specs.declared.Fixed.{Fixed}
use Rattle.machine.specs.State.{State}
use Rattle.machine.specs.Outcome.{go}
use Rattle.machine.specs.Buffers.{push, push_to, ending_bytes, end_line, ending_if_needed, end_line_if_needed}
use Rattle.machine.specs.Command.{exec}
use Rattle.machine.specs.Words.{line_ending, line_ending_if_needed}
use Rattle.state_buffers.specs.declared.Buffers.{Buffers}
use Rattle.state_buffers.specs.Stand as Stand
use Rattle.state_buffers.specs.Stand.{Stand, KeepsBy}
use Rattle.machine_bounded.specs.Within.{one, within}
use Rattle.machine_bounded.proofs.Bounds.{done}
use Rattle.state_context.specs.declared.Context.{Context}
use Rattle.state_context.specs.Rel.{Rel, Any, Keeps, Pushes, ending_in}

-- ---- the buffers alone

abbrev pub with_buffers : Buffers → Context → Context
with_buffers x c = record { buffers = x; word = c.word; rank = c.rank; tight = c.tight; table = c.table }

-- what is not in the buffers is as it was
pub record Elsewhere (s u : State) : Type 0 where
  pub flags : u.flags ≡ s.flags
  pub waiting : u.waiting ≡ s.waiting
  pub tight : u.tight ≡ s.tight
  pub table : u.table ≡ s.table
  pub fixed : u.fixed ≡ s.fixed
  pub captures : length u.captures ≡ length s.captures

pushed-to : (cs : List (List ℕ)) (t : List ℕ) (s : State) → s.captures ≡ cs → Elsewhere s (push_to cs t s)
pushed-to [] t s p = record { flags = refl; waiting = refl; tight = refl; table = refl; fixed = refl; captures = refl }
pushed-to (c ∷ cs) t s p = record { flags = refl; waiting = refl; tight = refl; table = refl; fixed = refl; captures = sym (ap length p) }

pub pushed : (t : List ℕ) (s : State) → Elsewhere s (push t s)
unfolding push
pushed t s = pushed-to s.captures t s refl

ended : (s : State) → Elsewhere s (end_line s)
unfolding end_line
ended s = pushed (ending_bytes s.fixed.ending) s

ended-if : (s : State) → Elsewhere s (end_line_if_needed s)
unfolding end_line_if_needed
ended-if s = pushed (ending_if_needed s) s

-- the buffers change, and nothing else
pub rel-buffers : {c : Context} {captures out captures' out' : List ℕ} {b : List ℕ} {s u : State} {x : Buffers} → Rel c captures out b s → Elsewhere s u → Stand x captures' b out' u → Rel (with_buffers x c) captures' out' b u
rel-buffers r e q = record { stand = q; flags = r.flags ∙ sym e.flags; waits = rw e.waiting r.waits; tight = rw e.tight r.tight; table = rw e.table r.table; fixed = r.fixed ∙ sym e.fixed }

-- ---- writing

module _ (c : Context) (captures out : List ℕ) (x : Buffers) (captures' out' : List ℕ) where
  pub pushing : (t : List ℕ) → Stand.Keeps (push t) c.buffers captures out x captures' out' → Pushes t c captures out (with_buffers x c) captures' out'
  pushing t k = record { pushes = λ b s r. rel-buffers r (pushed t s) (k.keeps b s r.stand) }

  by-ending : {ending : Ending} (f : State → State) → ((s : State) → Elsewhere s (f s)) → ending ≡ ending_in c.word → KeepsBy ending f c.buffers captures out x captures' out'
      → (b : List ℕ) (s u : State) → Rel c captures out b s → one true (go (f s)) ≡ go u → Rel (with_buffers x c) captures' out' b u
  by-ending f e i k b s u r p = let w = (done true (go (f s)) u p).went in let q : f s ≡ u = cc in rw (← q) (rel-buffers r (e s) (k.keeps b s (i ∙ ap (λ (x : Fixed). x.ending) r.fixed) r.stand))

  pub ending : {ending : Ending} → ending ≡ ending_in c.word → KeepsBy ending end_line c.buffers captures out x captures' out' → Keeps Any line_ending c captures out (with_buffers x c) captures' out'
  unfolding exec within end_line
  ending i k = record { keeps = λ t b s u a r p. by-ending end_line ended i k b s u r p }

  pub ending-if : {ending : Ending} → ending ≡ ending_in c.word → KeepsBy ending end_line_if_needed c.buffers captures out x captures' out' → Keeps Any line_ending_if_needed c captures out (with_buffers x c) captures' out'
  unfolding exec within end_line_if_needed
  ending-if i k = record { keeps = λ t b s u a r p. by-ending end_line_if_needed ended-if i k b s u r p }
