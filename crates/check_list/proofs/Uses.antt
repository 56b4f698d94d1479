-- A list without a link, an image or a call does not break 7. Assumes nothing.
use Rattle.std.proofs.Common.{None, Ok, ◌≡◌, refl, Bool, true, false, true≢false, List, ℕ, zero, suc, ◌/◌, ◌≤◌, add-one, arith, eqb, length, drop}
use Rattle.event.specs.declared.Event.{Event}
use Rattle.event.specs.Event.{is_enter, event_at, events_of}
use Rattle.check_labels.specs.Labels.{label_holds, undefined_from, undefined_of}
use Rattle.check_labels.proofs.Steps.{first-start, first_more, first-end}
use Rattle.check_events.specs.declared.Passed.{Passed}
use Rattle.check_events.specs.Looked.{is_use, NoUses, Passes}
use Rattle.check_list.specs.Stairs.{from_labels}
use Rattle.check_list.proofs.Order.{labels-pass}

unused-holds : (text : List ℕ) (events : List Event) (e : Event) (behind : List Event) → is_use e ≡ false → true ≡ label_holds text events e behind
unfolding label_holds
unused-holds text events e behind u = go (is_enter e) refl (eqb e.name 45) refl (eqb e.name 46) refl (eqb e.name 62) refl
  where
    go : (k : Bool) → is_enter e ≡ k → (x : Bool) → eqb e.name 45 ≡ x → (y : Bool) → eqb e.name 46 ≡ y → (z : Bool) → eqb e.name 62 ≡ z
        → true ≡ label_holds text events e behind
    go false k x p y q z r = rw k
    go true k false p false q false r = rw (k, p, q, r)
    go true k true p y q z r = absurd (true≢false (rw (k, p) at u))
    go true k false p true q z r = absurd (true≢false (rw (k, p, q) at u))
    go true k false p false q true r = absurd (true≢false (rw (k, p, q, r) at u))

module _ (text b : List ℕ) (none : NoUses b) where
  unused-to : (i : ℕ) → i ≤ length b / 20 → undefined_from text (events_of b) i (drop i (events_of b)) ≡ undefined_of text b
  unused-to zero h = first-start text b
  unused-to (suc i) h =
      let u = unused-holds text (events_of b) (event_at b i) (drop (suc i) (events_of b)) (none i (omega arith)) in
      rw add-one at (first_more text b refl (unused-to i (omega arith)) (omega arith) (rw add-one u) refl)

  unused : None ≡ undefined_of text b
  unused = first-end text b refl (unused-to (length b / 20) (omega arith)) (omega arith)

pub no-uses : (text b : List ℕ) {p : Passed} → Passes text b p → p.uses ≡ false → Ok tt ≡ from_labels text b
no-uses text b w u = labels-pass text b None (unused text b (w.unused u)) refl
