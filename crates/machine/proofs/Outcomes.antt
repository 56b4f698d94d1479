-- Outcomes, one behind the other. Assumes nothing.
use mathlib.Core.Path.{◌≡◌, refl}
use mathlib.Core.Option.{Option, none, some}
use Prim.Native.Nat.{ℕ}
use native.Mathlib.Omega.{arith}
use Rattle.machine.specs.Outcome.{Outcome, stop, go, ◌>>=◌, need}

pub never : {X A : Type 0} {u : A} → stop ≡ go u → X
never p = let z : ◌≡◌ {A = ℕ} 0 1 = cc in absurd (omega arith)

-- where the whole goes on, so does the first part, and the second from there
pub first_goes : {A B : Type 0} (x : Outcome A) (f : A → Outcome B) (u : B) → (x >>= f) ≡ go u → (v : A) × (x ≡ go v) × (f v ≡ go u)
first_goes stop f u p = never p
first_goes (go v) f u p = (v, refl, p)

pub need-goes : {A B : Type 0} (x : Option A) (f : A → Outcome B) (u : B) → (need x >>= f) ≡ go u → (v : A) × (x ≡ some v) × (f v ≡ go u)
need-goes none f u p = never p
need-goes (some v) f u p = (v, refl, p)

-- a second part that always goes on is part of the third
pub joins : {A B C : Type 0} (x : Outcome A) (f : A → B) (g : B → Outcome C) → ((x >>= λ a. go (f a)) >>= g) ≡ (x >>= λ a. g (f a))
joins stop f g = refl
joins (go a) f g = refl
