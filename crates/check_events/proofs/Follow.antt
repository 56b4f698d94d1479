-- A pass that goes on behind its first break, which it keeps. Assumes nothing.
use Rattle.std.proofs.Common.{◌≡◌, refl, sym, ◌∙◌, Bool, true, false, List, ℕ, ◌+◌, ◌/◌, ◌<◌, ◌≤◌, arith, length, drop, Option, Some, None}
use Rattle.event.specs.declared.Event.{Event}
use Rattle.event.specs.Event.{event_at, events_of}
use Rattle.check_slices.specs.First.{first_from}
use Rattle.check_slices.proofs.Laws.{stops, goes_on, ends}
use Rattle.check_events.specs.Walk.{Step}

none≢some : {X : Type 0} {i : ℕ} → ◌≡◌ {A = Option ℕ} None (Some i) → X
none≢some e = let z : ◌≡◌ {A = ℕ} 0 1 = cc in absurd (omega arith)

-- ---- all events

module _ {S : Type 0} (holds : S → Event → Bool) (behind : S → Event → S) (b : List ℕ) (count : ℕ) (w : Option ℕ) where
  -- before the event i of count: the first break is the answer, else the rest of the pass gives it
  pub record Follows (i : ℕ) (wrong : Option ℕ) (s : S) : Type 0 where
    pub found : (j : ℕ) → wrong ≡ Some j → Some j ≡ w
    pub left : wrong ≡ None → first_from holds behind i s (drop i (events_of b)) ≡ w

  pub follow-start : {s : S} → first_from holds behind 0 s (events_of b) ≡ w → Follows 0 None s
  follow-start p = record { found = λ j h. none≢some h; left = λ h. p }

  module _ {i : ℕ} {wrong : Option ℕ} {s : S} (f : Follows i wrong s) (l : count ≡ length b / 20) where
    pub follow-idle : i < count → holds s (event_at b i) ≡ true → s ≡ behind s (event_at b i) → Follows (i + 1) wrong s
    follow-idle h p q = record { found = f.found; left = λ k. goes_on holds behind b i count s w (f.left k) l h (event_at b i) refl true (sym p) refl s q }

    pub follow-step : i < count → {e : Event} → e ≡ event_at b i → {next : Option ℕ} {t : S} → Step holds behind i e wrong s next t → Follows (i + 1) next t
    follow-step h {e} p {next} {t} x = go wrong refl (holds s e) refl
      where
        go : (u : Option ℕ) → wrong ≡ u → (v : Bool) → holds s e ≡ v → Follows (i + 1) next t
        go (Some j) q v r = let o = x.over j q in record { found = λ k y. sym y ∙ o ∙ f.found j q; left = λ y. none≢some (sym y ∙ o) }
        go None q true r = let o = x.on q r in record { found = λ k y. none≢some (sym o ∙ y); left = λ y. goes_on holds behind b i count s w (f.left q) l h e p true (sym r) refl t (x.state q r) }
        go None q false r = let o = x.breaks q r in record { found = λ k y. sym y ∙ o ∙ stops holds behind b i count s w (f.left q) l h e p false (sym r) refl; left = λ y. none≢some (sym y ∙ o) }

    pub follow-end : count ≤ i → wrong ≡ w
    follow-end h = go wrong refl
      where
        go : (u : Option ℕ) → wrong ≡ u → wrong ≡ w
        go (Some j) q = q ∙ f.found j q
        go None q = q ∙ ends holds behind b i count s w (f.left q) l h
