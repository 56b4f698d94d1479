-- A pass that carries a state: what the state is before the event k, and what the pass asks there. Assumes nothing.
use Rattle.std.proofs.Common.{◌≡◌, refl, Bool, true, List, [], ◌∷◌, ℕ, zero, suc, arith, drop}
use lib.Seq.{drop-nil}
use Rattle.event.specs.declared.Event.{Event}
use Rattle.check_slices.proofs.First.{holds_at}

none-there : {X : Type 0} (k : ℕ) {e : Event} {r : List Event} → drop k [] ≡ e ∷ r → X
none-there k {e} {r} q = let p = drop-nil {A = Event} k in let z : ◌≡◌ {A = ℕ} 0 1 = cc in absurd (omega arith)

module _ {S : Type 0} (behind : S → Event → S) where
  -- the state behind the first k events
  abbrev pub state_at : S → List Event → ℕ → S
  state_at s [] k = s
  state_at s (e ∷ es) zero = s
  state_at s (e ∷ es) (suc k) = state_at (behind s e) es k

  pub state-first : (s : S) (es : List Event) → state_at s es 0 ≡ s
  state-first s [] = refl
  state-first s (e ∷ es) = refl

  pub state-next : (s : S) (es : List Event) (k : ℕ) {e : Event} {r : List Event} → drop k es ≡ e ∷ r → state_at s es (suc k) ≡ behind (state_at s es k) e
  state-next s [] k p = none-there k p
  state-next s (x ∷ []) zero p = cc
  state-next s (x ∷ y ∷ es) zero p = cc
  state-next s (x ∷ es) (suc k) p = state-next (behind s x) es k p

  module _ (holds : S → Event → Bool) where
    pub holds-there : (s : S) (es : List Event) (k : ℕ) {e : Event} {r : List Event} → drop k es ≡ e ∷ r → holds_at holds behind s es k ≡ holds (state_at s es k) e
    holds-there s [] k p = none-there k p
    holds-there s (x ∷ es) zero p = cc
    holds-there s (x ∷ es) (suc k) p = holds-there (behind s x) es k p

    pub holds-past : (s : S) (es : List Event) (k : ℕ) → drop k es ≡ [] → holds_at holds behind s es k ≡ true
    holds-past s [] k p = refl
    holds-past s (x ∷ es) zero p = let z : ◌≡◌ {A = ℕ} 0 1 = cc in absurd (omega arith)
    holds-past s (x ∷ es) (suc k) p = holds-past (behind s x) es k p
