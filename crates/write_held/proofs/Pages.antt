-- Handlers of the context alone by the work bytes and the page; how handlers go together there. Assumes nothing.
use mathlib.Core.Path.{◌≡◌, refl, sym, ap, ◌∙◌}
use mathlib.Core.Bool.{true}
use mathlib.Core.List.{List, ◌++◌}
use Prim.Native.Nat.{ℕ, ◌<◌}
use native.Mathlib.Omega.{arith}
use lib.ListN.{length, take, drop}
use Rattle.regions.specs.Sizes.{region_size}
use Rattle.machine.specs.Outcome.{Outcome, stop, go, ◌>>=◌}
use Rattle.machine.specs.State.{State}
use Rattle.machine.specs.Turn.{Turn}
use Rattle.machine.specs.Command.{Command, ◌▸◌}
use Rattle.machine_bounded.specs.Within.{within}
use Rattle.state_context.specs.declared.Context.{Context}
use Rattle.state_context.specs.Rel.{Keeps}
use Rattle.state_whole.specs.declared.Whole.{Whole}
use Rattle.state_whole.specs.Quiet.{is_quiet}
use Rattle.state_whole.specs.Whole.{World, Always, Handles, OnPage, with_context, with_out, with_work}
use Rattle.state_whole.proofs.Lifts.{lifts, then}

pub too_short : {N : Whole → Type 0} {View : Turn → Type 0} {d : Command} {b : Whole} {work out : List ℕ} → length work < region_size → OnPage N View d b work out b work out
too_short h = record { on-page = λ text w i j. record { handles = λ t s u v a y p. (let l = y.long in let e = ap length i in absurd (omega arith)) } }

-- other work bytes that are the same
moved : {text : List ℕ} {N : Whole → Type 0} {View : Turn → Type 0} {d : Command} {b r : Whole} {w : World} {out : List ℕ} (captures x y : List ℕ) → x ≡ y → Handles text N View d b w r (with_out out (with_work (captures ++ drop region_size x) w))
    → Handles text N View d b w r (with_out out (with_work (captures ++ drop region_size y) w))
moved captures x y p k = rw p at k

pub lifts-page : {View : Turn → Type 0} {d : Command} {b : Whole} {x : Context} {work out captures' out' : List ℕ} → is_quiet d ≡ true → Keeps View d b.context (take region_size work) out x captures' out' → length captures' ≡ length (take region_size work)
    → OnPage Always View d b work out (with_context x b) (captures' ++ drop region_size work) out'
lifts-page {work = work} {captures' = captures'} q k n = record { on-page = λ text w i j. moved captures' w.work work i (lifts q k (ap (take region_size) i) j n) }

module _ {N M : Whole → Type 0} {View : Turn → Type 0} {d e : Command} {b r q : Whole} {work out work' out' work'' out'' : List ℕ} where
  pub then-on-page : OnPage N View d b work out r work' out' → OnPage M View e r work' out' q work'' out'' → (N b → M r) → OnPage N View (d ▸ e) b work out q work'' out''
  then-on-page k l f = record { on-page = λ text w i j. then (k.on-page text w i j) (l.on-page text (with_out out' (with_work work' w)) refl refl) f }

module _ {N : Whole → Type 0} {d : Command} {b r : Whole} {work out work' out' : List ℕ} where
  pub narrow-page : {View Wide : Turn → Type 0} → ((t : Turn) → View t → Wide t) → OnPage N Wide d b work out r work' out' → OnPage N View d b work out r work' out'
  narrow-page f k = record { on-page = λ text w i j. record { handles = λ t s u v a y p. (k.on-page text w i j).handles t s u (f t v) a y p } }

  pub needs-page : {M : Whole → Type 0} {View : Turn → Type 0} → (M b → N b) → OnPage N View d b work out r work' out' → OnPage M View d b work out r work' out'
  needs-page f k = record { on-page = λ text w i j. record { handles = λ t s u v a y p. (k.on-page text w i j).handles t s u v (f a) y p } }

-- ---- the same chain, grouped the other way

bind_assoc : {A B C : Type 0} (x : Outcome A) (f : A → Outcome B) (g : B → Outcome C) → (x >>= λ a. f a >>= g) ≡ ((x >>= f) >>= g)
bind_assoc stop f g = refl
bind_assoc (go a) f g = refl

pub regroup : (c d e : Command) (t : Turn) (s : State) → within (c ▸ d ▸ e) t s ≡ within ((c ▸ d) ▸ e) t s
unfolding within
regroup c d e t s = bind_assoc (within c t s) (λ u. within d t u) (λ u. within e t u)

-- four commands, and then the rest
pub regroup-four : (c d e f g : Command) (t : Turn) (s : State) → within (c ▸ d ▸ e ▸ f ▸ g) t s ≡ within ((c ▸ d ▸ e ▸ f) ▸ g) t s
unfolding within
regroup-four c d e f g t s = on (within c t s)
  where
    three : (x : Outcome State) → (x >>= λ u. within e t u >>= λ v. within f t v >>= λ z. within g t z) ≡ ((x >>= λ u. within e t u >>= λ v. within f t v) >>= λ z. within g t z)
    three stop = refl
    three (go u) = bind_assoc (within e t u) (λ v. within f t v) (λ z. within g t z)

    on : (x : Outcome State)
        → (x >>= λ u. within d t u >>= λ v. within e t v >>= λ y. within f t y >>= λ z. within g t z) ≡ ((x >>= λ u. within d t u >>= λ v. within e t v >>= λ y. within f t y) >>= λ z. within g t z)
    on stop = refl
    on (go u) = three (within d t u)

pub same-within : {N : Whole → Type 0} {View : Turn → Type 0} {d e : Command} {b r : Whole} {work out work' out' : List ℕ} → ((t : Turn) (s : State) → within e t s ≡ within d t s) → OnPage N View d b work out r work' out' → OnPage N View e b work out r work' out'
same-within f k = record { on-page = λ text w i j. record { handles = λ t s u v a y p. (k.on-page text w i j).handles t s u v a y (sym (f t s) ∙ p) } }
