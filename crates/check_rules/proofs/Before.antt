-- What stands before an event, place by place: the newest marker, and whether a 14 is the first of its 13. Assumes nothing.
use Rattle.std.proofs.Common.{◌≡◌, refl, sym, ap, ◌∙◌, Bool, true, false, true≢false, ◌||◌, ◌↔◌, List, ℕ, ◌+◌, arith, eqb}
use native.Mathlib.Decide.{dec_lt, ℕ_discrete}
use Rattle.event.specs.declared.Event.{Event}
use Rattle.event.specs.Event.{event_at}
use Rattle.character_reference.specs.declared.Marker.{Marker}
use Rattle.character_reference.specs.declared.Marker.TheVariants.{Named, Decimal, Hexadecimal}
use Rattle.check_rules.specs.Rules.{Enters, Exits, is_marker, After, Marks, FirstSequence}

pub clash : {X : Type 0} {t : Bool} → t ≡ true → t ≡ false → X
clash p q = absurd (true≢false (sym p ∙ q))

-- the names of markers
abbrev marks : ℕ → Bool
marks n = eqb n 8 || eqb n 9 || eqb n 10

is-marker : (n : ℕ) (e : Event) → marks n ≡ true → Exits n e → is_marker e ≡ true
is-marker n e h p = rw (p.0, p.1) h

module _ (events : List ℕ) where
  abbrev at : ℕ → Event
  at k = event_at events k

  -- ---- the newest marker

  later : (n k : ℕ) → is_marker (at k) ≡ false → After events n k → After events n (k + 1)
  later n k h a = record {
    at = a.at;
    before = let b = a.before in omega arith;
    marker = a.marker;
    newest = λ j l u. elim (ℕ_discrete j k) [ yes q ↦ rw q h | no q ↦ a.newest j l (omega arith) ];
  }

  sooner : (n k : ℕ) → marks n ≡ true → is_marker (at k) ≡ false → After events n (k + 1) → After events n k
  sooner n k m h a = elim (ℕ_discrete a.at k) [
    | yes q ↦ clash (is-marker n (at k) m (rw q at a.marker)) h
    | no q ↦ record {
      at = a.at;
      before = let b = a.before in omega arith;
      marker = a.marker;
      newest = λ j l u. a.newest j l (omega arith);
    }
  ]

  here : (n k : ℕ) → Exits n (at k) → After events n (k + 1)
  here n k p = record { at = k; before = omega arith; marker = p; newest = λ j l u. absurd (omega arith) }

  -- two markers of which both are the newest are one
  alone : (n m k : ℕ) → marks n ≡ true → marks m ≡ true → After events n k → After events m k → n ≡ m
  alone n m k p q a b = elim (dec_lt a.at b.at) [
    | yes l ↦ clash (is-marker m (at b.at) q b.marker) (a.newest b.at l b.before)
    | no l ↦ elim (dec_lt b.at a.at) [
      | yes r ↦ clash (is-marker n (at a.at) p a.marker) (b.newest a.at r a.before)
      | no r ↦ let e : a.at ≡ b.at = omega arith in sym a.marker.1 ∙ ap (λ (i : ℕ). (at i).name) e ∙ b.marker.1
    ]
  ]

  -- an exit of another marker is the newest: no n is
  replaced : (n m k : ℕ) → marks n ≡ true → marks m ≡ true → (n ≡ m → ⊥) → Exits m (at k) → After events n (k + 1) → ⊥
  replaced n m k p q d x a = d (alone n m (k + 1) p q a (here m k x))

  pub marks_stay : (k : ℕ) (m : Marker) → is_marker (at k) ≡ false → Marks events k m → Marks events (k + 1) m
  marks_stay k Hexadecimal h a = later 10 k h a
  marks_stay k Decimal h a = later 9 k h a
  marks_stay k Named h a = (λ b. a.0 (sooner 10 k refl h b), λ b. a.1 (sooner 9 k refl h b))

  pub marks-named : (k : ℕ) → Exits 8 (at k) → Marks events (k + 1) Named
  marks-named k x = (replaced 10 8 k refl refl (λ p. absurd (omega arith)) x, replaced 9 8 k refl refl (λ p. absurd (omega arith)) x)

  pub marks-decimal : (k : ℕ) → Exits 9 (at k) → Marks events (k + 1) Decimal
  marks-decimal k x = here 9 k x

  pub marks-hexadecimal : (k : ℕ) → Exits 10 (at k) → Marks events (k + 1) Hexadecimal
  marks-hexadecimal k x = here 10 k x

  pub marks-start : Marks events 0 Named
  marks-start = (λ a. let b = a.before in absurd (omega arith), λ a. let b = a.before in absurd (omega arith))

  pub marks-one : (k : ℕ) (a b : Marker) → Marks events k a → Marks events k b → a ≡ b
  marks-one k Hexadecimal Hexadecimal p q = refl
  marks-one k Decimal Decimal p q = refl
  marks-one k Named Named p q = refl
  marks-one k Hexadecimal Decimal p q = let z = alone 10 9 k refl refl p q in absurd (omega arith)
  marks-one k Decimal Hexadecimal p q = let z = alone 9 10 k refl refl p q in absurd (omega arith)
  marks-one k Hexadecimal Named p q = absurd (q.0 p)
  marks-one k Decimal Named p q = absurd (q.1 p)
  marks-one k Named Hexadecimal p q = absurd (p.0 q)
  marks-one k Named Decimal p q = absurd (p.1 q)

  -- ---- the first 14 of a 13

  -- b says that a 14 came before in the same 13
  abbrev pub Sequenced : ℕ → Bool → Type 0
  Sequenced k b = (b ≡ false) ↔ FirstSequence events k

  pub sequence-start : Sequenced 0 false
  sequence-start = (λ p j h. absurd (omega arith), λ f. refl)

  pub sequence-heading : (k : ℕ) → Enters 13 (at k) → Sequenced (k + 1) false
  sequence-heading k x = (
    λ p j h y. elim (ℕ_discrete j k) [
      | yes q ↦ clash x.0 (rw q at y.0)
      | no q ↦ (k, omega arith, omega arith, x)
    ],
    λ f. refl,
  )

  pub sequence-seen : (k : ℕ) → Exits 14 (at k) → Sequenced (k + 1) true
  sequence-seen k x = (λ p. absurd (true≢false p), λ f. let r = f k (omega arith) x in let u = r.1 in let w = r.2 in absurd (omega arith))

  pub sequence-stays : (k : ℕ) (b : Bool) → (Enters 13 (at k) → ⊥) → (Exits 14 (at k) → ⊥) → Sequenced k b → Sequenced (k + 1) b
  sequence-stays k b x y s = (to, from)
    where
      to : b ≡ false → FirstSequence events (k + 1)
      to p j h z = elim (ℕ_discrete j k) [
        | yes q ↦ absurd (y (rw q at z))
        | no q ↦ let r = s.0 p j (omega arith) z in (r.0, r.1, (let u = r.2 in omega arith), r.3)
      ]

      from : FirstSequence events (k + 1) → b ≡ false
      from f = s.1 (λ j h z. let r = f j (omega arith) z in elim (ℕ_discrete r.0 k) [
        | yes q ↦ absurd (x (rw q at r.3))
        | no q ↦ (r.0, r.1, (let u = r.2 in omega arith), r.3)
      ])
