-- The rank by the first byte of the underline. Assumes nothing.
use mathlib.Core.Path.{◌≡◌, refl, sym, ap, ◌∙◌}
use mathlib.Core.Bool.{Bool}
use mathlib.Core.List.{List, [], ◌∷◌}
use mathlib.Core.Option.{Option, none, some}
use Prim.Native.Nat.{ℕ, zero, suc, ◌≤◌, ◌<◌}
use native.Mathlib.Omega.{arith}
use lib.Dec.{eqb}
use lib.ListN.{length, get_or, get_elem?}
use Rattle.event.specs.declared.Event.{Event}
use Rattle.machine.specs.Outcome.{go, ◌>>=◌, need}
use Rattle.machine.specs.Turn.{Turn}
use Rattle.machine.specs.Test.{is_underlined_by_dashes, test}
use Rattle.machine.proofs.Outcomes.{never}
use Rattle.state_context.specs.declared.Context.{Context}
use Rattle.state_context.specs.Rel.{Sees, Tells}
use Rattle.on_setext.specs.Setext.{TellsDash, Underlined}

pub tells-dashes : {c : Context} {x : Bool} → Tells (Underlined x) is_underlined_by_dashes c x
unfolding test
tells-dashes {x = x} = record { tells = λ t w o b s y v r p. on t y v (get_elem? t.text t.event.from.0) refl p }
  where
    on : (t : Turn) (y : Bool) → Underlined x t → (o : Option ℕ) → get_elem? t.text t.event.from.0 ≡ o → (need o >>= λ a. go (eqb a 45)) ≡ go y → y ≡ x
    on t y v none q p = never p
    on t y v (some a) q p = let i : eqb a 45 ≡ y = cc in sym i ∙ v.dashes.dash-is a q

-- the turn's own event and text
pub underlined : {text : List ℕ} {e : Event} {x : Bool} → TellsDash text e x → (t : Turn) → Sees text e t → Underlined x t
underlined k t v = record { dashes = record { dash-is = λ a p. k.dash-is a (let q : get_elem? t.text t.event.from.0 ≡ some a = p in rw (v.text-is, v.event-is) at q) } }

-- ---- the byte that the code reads

index-low : (l : List ℕ) (k a : ℕ) → get_elem? l k ≡ some a → (k < length l) × (get_or l k 0 ≡ a)
index-low [] k a p = let z : ◌≡◌ {A = ℕ} 0 1 = cc in absurd (omega arith)
index-low (x ∷ l) zero a p = (omega arith, cc)
index-low (x ∷ l) (suc k) a p = let r = index-low l k a p in let h = r.0 in (omega arith, r.1)

pub dash-missing : {text : List ℕ} {e : Event} {x : Bool} → length text ≤ e.from.0 → TellsDash text e x
dash-missing {text} {e} h = record { dash-is = λ a p. (let r = (index-low text e.from.0 a p).0 in absurd (omega arith)) }

pub dash-read : {text : List ℕ} {e : Event} → TellsDash text e (eqb (get_or text e.from.0 0) 45)
dash-read {text} {e} = record { dash-is = λ a p. ap (λ x. eqb x 45) (sym (index-low text e.from.0 a p).1) }
