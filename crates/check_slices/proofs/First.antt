-- What a pass says: none exactly where every event holds in its state, else the first that does not. Assumes nothing.
use Rattle.std.proofs.Common.{if◌then◌else◌, ◌≡◌, refl, Bool, true, false, List, [], ◌∷◌, ℕ, zero, suc, ◌+◌, ◌<◌, arith, Some, None}
use Rattle.event.specs.declared.Event.{Event}
use Rattle.check_slices.specs.First.{first_from}

module _ {S : Type 0} (holds : S → Event → Bool) (behind : S → Event → S) where
  -- whether the event k holds in its state, the one behind those before it; past the last there is none to break the rule
  abbrev pub holds_at : S → List Event → ℕ → Bool
  holds_at s [] k = true
  holds_at s (e ∷ es) zero = holds s e
  holds_at s (e ∷ es) (suc k) = holds_at (behind s e) es k

  -- i is the place of the first event that breaks the rule, where the list starts at the place `from`
  pub record First (from : ℕ) (s : S) (es : List Event) (i : ℕ) : Type 0 where
    pub index : ℕ
    pub place : i ≡ from + index
    pub breaks : holds_at s es index ≡ false
    pub before : (k : ℕ) → k < index → holds_at s es k ≡ true

  pub yes-all : (from : ℕ) (s : S) (es : List Event) → first_from holds behind from s es ≡ None → (k : ℕ) → holds_at s es k ≡ true
  unfolding first_from
  yes-all from s [] p k = refl
  yes-all from s (e ∷ es) p k = go (λ q. yes-all (from + 1) (behind s e) es q) (holds s e) refl p k
    where
      go : (first_from holds behind (from + 1) (behind s e) es ≡ None → (k : ℕ) → holds_at (behind s e) es k ≡ true)
          → (t : Bool) → holds s e ≡ t → (if t then first_from holds behind (from + 1) (behind s e) es else Some from) ≡ None → (k : ℕ) → holds_at s (e ∷ es) k ≡ true
      go more true h q zero = h
      go more true h q (suc k) = more q k
      go more false h q k = let z : ◌≡◌ {A = ℕ} 0 1 = cc in absurd (omega arith)

  pub all_yes : (from : ℕ) (s : S) (es : List Event) → ((k : ℕ) → holds_at s es k ≡ true) → first_from holds behind from s es ≡ None
  unfolding first_from
  all_yes from s [] a = refl
  all_yes from s (e ∷ es) a = rw (a 0) (all_yes (from + 1) (behind s e) es (λ k. a (suc k)))

  later : (from : ℕ) (s : S) (e : Event) (es : List Event) (i : ℕ) → holds s e ≡ true → First (from + 1) (behind s e) es i → First from s (e ∷ es) i
  later from s e es i h f = record { index = suc f.index; place = omega (arith, f.place); breaks = f.breaks; before = go f.index f.before }
    where
      go : (n : ℕ) → ((k : ℕ) → k < n → holds_at (behind s e) es k ≡ true) → (k : ℕ) → k < suc n → holds_at s (e ∷ es) k ≡ true
      go n b zero l = h
      go n b (suc k) l = b k (omega arith)

  pub at_first : (from : ℕ) (s : S) (es : List Event) (i : ℕ) → first_from holds behind from s es ≡ Some i → First from s es i
  unfolding first_from
  at_first from s [] i p = let z : ◌≡◌ {A = ℕ} 0 1 = cc in absurd (omega arith)
  at_first from s (e ∷ es) i p = go (λ q. at_first (from + 1) (behind s e) es i q) (holds s e) refl p
    where
      go : (first_from holds behind (from + 1) (behind s e) es ≡ Some i → First (from + 1) (behind s e) es i)
          → (t : Bool) → holds s e ≡ t → (if t then first_from holds behind (from + 1) (behind s e) es else Some from) ≡ Some i → First from s (e ∷ es) i
      go more true h q = later from s e es i h (more q)
      go more false h q =
          let r : i ≡ from = cc in
          record { index = 0; place = omega arith; breaks = h; before = λ k l. absurd (omega arith) }

  first_of : (es : List Event) (from i : ℕ) (s : S) (n : ℕ) → i ≡ from + n → holds_at s es n ≡ false → ((k : ℕ) → k < n → holds_at s es k ≡ true)
      → first_from holds behind from s es ≡ Some i
  unfolding first_from
  first_of [] from i s n p b a = let z : ◌≡◌ {A = ℕ} 0 1 = cc in absurd (omega arith)
  first_of (e ∷ es) from i s zero p b a = let q : from ≡ i = omega arith in rw (b, q)
  first_of (e ∷ es) from i s (suc n) p b a = rw (a 0 (omega arith)) (first_of es (from + 1) i (behind s e) n (omega arith) b (λ k l. a (suc k) (omega arith)))

  pub first-at : (from : ℕ) (s : S) (es : List Event) (i : ℕ) → First from s es i → first_from holds behind from s es ≡ Some i
  first-at from s es i f = first_of es from i s f.index f.place f.breaks f.before
