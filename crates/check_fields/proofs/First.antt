-- The laws of a pass that looks for the first event that breaks a rule. Assumes nothing.
use Rattle.std.proofs.Common.{◌≡◌, refl, sym, ap, ◌∙◌, Bool, true, false, ◌↔◌, ◌⊎◌, inl, inr, List, ◌∷◌, Option, None, Some, ℕ, zero, suc, ◌+◌, ◌/◌, ◌≤◌, ◌<◌, add-one, arith, below_more, length, drop}
use Rattle.event.specs.declared.Event.{Event}
use Rattle.event.specs.Event.{event_at, events_of}
use Rattle.event.proofs.Laws.{events-next, events-end}
use Rattle.check_fields.specs.First.{first_break}

passes : (rule : Event → Bool) (i : ℕ) (e : Event) (es : List Event) → rule e ≡ true → first_break rule i (e ∷ es) ≡ first_break rule (i + 1) es
unfolding first_break
passes rule i e es h = rw h

breaks : (rule : Event → Bool) (i : ℕ) (e : Event) (es : List Event) → rule e ≡ false → first_break rule i (e ∷ es) ≡ Some i
unfolding first_break
breaks rule i e es h = rw h

-- ---- a loop over the events of b: what is found from i on is what is found at all

module _ (rule : Event → Bool) (b : List ℕ) (i count : ℕ) (found : Option ℕ) (n : count ≡ length b / 20)
    (left : first_break rule i (drop i (events_of b)) ≡ found) where
  here : i < count → first_break rule i (event_at b i ∷ drop (i + 1) (events_of b)) ≡ found
  here h = rw (events-next b i (omega arith)) at left

  pub break-next : {e : Event} {t : Bool} → i < count → e ≡ event_at b i → t ≡ rule e → t ≡ true → first_break rule (i + 1) (drop (i + 1) (events_of b)) ≡ found
  break-next h p q r = sym (passes rule i (event_at b i) (drop (i + 1) (events_of b)) (ap rule (sym p) ∙ sym q ∙ r)) ∙ here h

  pub break-here : {e : Event} {t : Bool} → i < count → e ≡ event_at b i → t ≡ rule e → t ≡ false → found ≡ Some i
  break-here h p q r = sym (here h) ∙ breaks rule i (event_at b i) (drop (i + 1) (events_of b)) (ap rule (sym p) ∙ sym q ∙ r)

  pub break-none : count ≤ i → found ≡ None
  unfolding first_break
  break-none h = sym (rw (events-end b i (omega arith)) at left)

-- ---- what is found, by the events' places

-- i is the first place below n that fails a test
pub record FirstBelow (test : ℕ → Bool) (n i : ℕ) : Type 0 where
  pub within : i < n
  pub fails : test i ≡ false
  pub before : (k : ℕ) → k < i → test k ≡ true

abbrev pub AllBelow : (ℕ → Bool) → ℕ → Type 0
AllBelow test n = (k : ℕ) → k < n → test k ≡ true

first-or-all : (test : ℕ → Bool) (n : ℕ) → AllBelow test n ⊎ (i : ℕ) × FirstBelow test n i
first-or-all test zero = inl (λ k h. absurd (omega arith))
first-or-all test (suc n) = more (test n) refl (first-or-all test n)
  where
    more : (t : Bool) → test n ≡ t → AllBelow test n ⊎ (i : ℕ) × FirstBelow test n i → AllBelow test (suc n) ⊎ (i : ℕ) × FirstBelow test (suc n) i
    more true h (inl all) = inl (rw add-one at (below_more (λ (k : ℕ). test k ≡ true) n all h))
    more false h (inl all) = inr (n, record { within = omega arith; fails = h; before = all })
    more t h (inr (i, f)) = inr (i, record { within = let w = f.within in omega arith; fails = f.fails; before = f.before })

module _ (rule : Event → Bool) (b : List ℕ) where
  -- whether an event passes, by its place
  abbrev pub passes_at : ℕ → Bool
  passes_at i = rule (event_at b i)

  unbroken : (i : ℕ) → i ≤ length b / 20 → AllBelow passes_at i → first_break rule i (drop i (events_of b)) ≡ first_break rule 0 (events_of b)
  unbroken zero h all = refl
  unbroken (suc i) h all =
      let left = unbroken i (omega arith) (λ k l. all k (omega arith)) in
      rw add-one at (break-next rule b i (length b / 20) (first_break rule 0 (events_of b)) refl left (omega arith) refl refl (all i (omega arith)))

  none_of : AllBelow passes_at (length b / 20) → first_break rule 0 (events_of b) ≡ None
  none_of all =
      let n = length b / 20 in
      break-none rule b n n (first_break rule 0 (events_of b)) refl (unbroken n (omega arith) all) (omega arith)

  some_of : (i : ℕ) → FirstBelow passes_at (length b / 20) i → first_break rule 0 (events_of b) ≡ Some i
  some_of i f =
      let w = f.within in
      break-here rule b i (length b / 20) (first_break rule 0 (events_of b)) refl (unbroken i (omega arith) f.before) w refl refl f.fails

  -- nothing is found exactly when every event passes
  pub found_none : (first_break rule 0 (events_of b) ≡ None) ↔ AllBelow passes_at (length b / 20)
  found_none = (λ p. go p (first-or-all passes_at (length b / 20)), none_of)
    where
      go : first_break rule 0 (events_of b) ≡ None → AllBelow passes_at (length b / 20) ⊎ (i : ℕ) × FirstBelow passes_at (length b / 20) i → AllBelow passes_at (length b / 20)
      go p (inl all) = all
      go p (inr (i, f)) = let q = some_of i f in let z : ◌≡◌ {A = ℕ} 0 1 = cc in absurd (omega arith)

  -- and i exactly when it is the first that does not
  pub found_some : (i : ℕ) → (first_break rule 0 (events_of b) ≡ Some i) ↔ FirstBelow passes_at (length b / 20) i
  found_some i = (λ p. go p (first-or-all passes_at (length b / 20)), some_of i)
    where
      go : first_break rule 0 (events_of b) ≡ Some i → AllBelow passes_at (length b / 20) ⊎ (k : ℕ) × FirstBelow passes_at (length b / 20) k → FirstBelow passes_at (length b / 20) i
      go p (inl all) = let q = none_of all in let z : ◌≡◌ {A = ℕ} 0 1 = cc in absurd (omega arith)
      go p (inr (k, f)) = let q = some_of k f in let e : k ≡ i = cc in rw e at f
