-- Which containers are tight: opened, taken off, asked. Assumes nothing.
use mathlib.Core.Path.{◌≡◌, refl, sym, ◌∙◌}
use mathlib.Core.Bool.{Bool, true, false, not}
use mathlib.Core.List.{List, [], ◌∷◌}
use Prim.Native.Nat.{suc, ◌≤◌}
use native.Mathlib.Omega.{arith}
use lib.Dec.{eqb}
use lib.ListN.{length}
use borrow.Author.Tests.{ne_eqb}
use Rattle.packed.specs.declared.Tight.{Tight}
use Rattle.packed.specs.Tight.{Tightened, older, newest_of, More, Fewer, Newest}
use Rattle.machine.specs.Outcome.{go}
use Rattle.machine.specs.Set.{set_tight}
use Rattle.machine.specs.Test.{is_tight, is_in_container, tight_of, is_empty, test}
use Rattle.machine.specs.Command.{tail, exec}
use Rattle.machine.specs.Words.{open_container, close_container}
use Rattle.machine_bounded.specs.Within.{within}
use Rattle.machine_bounded.proofs.Bounds.{fits}
use Rattle.state_context.specs.declared.Context.{Context}
use Rattle.state_context.specs.Rel.{Any, Sets, Tells}
use Rattle.state_context.proofs.Plain.{stands, setting}

tail-is : (a : List Bool) → older a ≡ tail a
tail-is [] = refl
tail-is (x ∷ a) = refl

newest-is : (a : List Bool) → newest_of a ≡ tight_of a
newest-is [] = refl
newest-is (x ∷ a) = refl

abbrev with_tight : Tight → Context → Context
with_tight x c = record { buffers = c.buffers; word = c.word; rank = c.rank; tight = x; table = c.table }

module _ {c : Context} where
  pub widens : {x : Bool} {y : Tight} → More x c.tight y → Sets (open_container x) c (with_tight y c)
  unfolding exec within
  widens {x} k =
      setting (λ s. set_tight (x ∷ s.tight) s) (λ t s. refl)
      (λ w o b s f r.
      let n : suc (length s.tight) ≤ 64 = (fits (set_tight (x ∷ s.tight) s) f).tight in
      record { stand = stands r.stand refl refl; flags = r.flags; waits = r.waits; tight = k.more s.tight (omega arith) r.tight; table = r.table; fixed = r.fixed })

  pub closes-container : {y : Tight} → Fewer c.tight y → Sets close_container c (with_tight y c)
  unfolding exec within
  closes-container k =
      setting (λ s. set_tight (tail s.tight) s) (λ t s. refl)
      (λ w o b s f r. record { stand = stands r.stand refl refl; flags = r.flags; waits = r.waits; tight = rw (← tail-is s.tight) (k.fewer s.tight r.tight); table = r.table; fixed = r.fixed })

  pub tells-tight : {x : Bool} → Newest c.tight x → Tells Any is_tight c x
  unfolding test
  tells-tight k = record { tells = λ t w o b s y v r p. (let q : tight_of s.tight ≡ y = cc in sym q ∙ sym (newest-is s.tight) ∙ sym (k.newest s.tight r.tight)) }

  pub in-container : Tells Any is_in_container c (not (eqb c.tight.count 0))
  unfolding test
  in-container = record { tells = λ t w o b s y v x p. inside s.tight x.tight y p }
    where
      inside : (a : List Bool) → Tightened c.tight a → (y : Bool) → go (not (is_empty a)) ≡ go y → y ≡ not (eqb c.tight.count 0)
      inside [] x y p = let i : false ≡ y = cc in let n = x.count in sym i ∙ rw n
      inside (k ∷ ks) x y p = let i : true ≡ y = cc in let n = x.count in sym i ∙ rw (ne_eqb c.tight.count 0 (λ e. absurd (omega arith)))
