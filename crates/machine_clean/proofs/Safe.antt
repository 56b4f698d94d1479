-- What holds of an outcome where it goes on, step by step; slices are UTF-8 where they go on. Assumes nothing.
use mathlib.Core.Path.{◌≡◌, refl}
use mathlib.Core.Bool.{Bool, true, false, cond}
use mathlib.Core.List.{List}
use mathlib.Core.Option.{Option}
use Prim.Native.Nat.{ℕ, zero, suc}
use native.Mathlib.Omega.{arith}
use lib.ListN.{get_elem?}
use Rattle.utf8.specs.Utf8.{is_utf8}
use Rattle.machine.specs.State.{Span}
use Rattle.machine.specs.Outcome.{Outcome, stop, go, ◌>>=◌, need}
use Rattle.machine.specs.Turn.{slice_of, as_str, str_of}
use Rattle.machine_clean.specs.Clean.{Valid, All, empty, more, Maybe, missing, there}

-- P holds of what it goes on with; where it stops, why it may
pub data Ends {A : Type 0} (Why : Type 0) (P : A → Type 0) : Outcome A → Type 0 where
  halts : Why → Ends Why P stop
  goes : {a : A} → P a → Ends Why P (go a)

-- it may always stop, or never
abbrev pub Safe : {A : Type 0} (P : A → Type 0) → Outcome A → Type 0
Safe P o = Ends (Unit {0}) P o

abbrev pub Sure : {A : Type 0} (P : A → Type 0) → Outcome A → Type 0
Sure P o = Ends ⊥ P o

pub stops : {A : Type 0} {P : A → Type 0} → Safe P stop
stops = halts tt

pub chain : {A B : Type 0} {Why : Type 0} {P : A → Type 0} {Q : B → Type 0} {o : Outcome A} (f : A → Outcome B) → Ends Why P o → ((a : A) → P a → Ends Why Q (f a)) → Ends Why Q (o >>= f)
chain f (halts w) k = halts w
chain f (goes {a} p) k = k a p

pub result : {A : Type 0} (P : A → Type 0) {o : Outcome A} (a : A) → Safe P o → o ≡ go a → P a
result P a (halts w) e = let z : ◌≡◌ {A = ℕ} 0 1 = cc in absurd (omega arith)
result P a (goes {a = b} p) e = let q : b ≡ a = cc in rw q at p

pub surely : {A : Type 0} {P : A → Type 0} {o : Outcome A} → Sure P o → (a : A) × (o ≡ go a) × P a
surely (goes {a} p) = (a, refl, p)
surely (halts w) = absurd w

-- of anything
pub any : {A : Type 0} (o : Outcome A) → Safe (λ a. Unit {0}) o
any stop = stops
any (go a) = goes tt

-- ---- what is needed

pub needed : {o : Option (List ℕ)} → Maybe o → Safe Valid (need o)
needed missing = stops
needed (there v) = goes v

pub at : {A : Type 0} {P : A → Type 0} {l : List A} → All P l → (k : ℕ) → Safe P (need (get_elem? l k))
at empty k = stops
at (more p q) zero = goes p
at (more p q) (suc k) = at q k

-- ---- slices

pub read : (b : List ℕ) → Safe Valid (as_str b)
unfolding as_str
read b = on (is_utf8 b) refl
  where
    on : (t : Bool) → is_utf8 b ≡ t → Safe Valid (cond t (go b) stop)
    on true e = goes (record { utf8 = e })
    on false e = stops

pub reads : {b : List ℕ} → Valid b → as_str b ≡ go b
unfolding as_str
reads v = rw v.utf8

pub sliced : (text : List ℕ) (p : Span) → Safe Valid (str_of text p)
unfolding str_of
sliced text p = chain as_str (any (slice_of text p)) (λ b _. read b)
