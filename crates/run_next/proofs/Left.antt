-- What a pass leaves out on its way to the next event. Assumes nothing.
use mathlib.Core.Path.{◌≡◌, refl, sym, ap, ◌∙◌}
use mathlib.Core.Bool.{Bool, true, false, not, ◌&&◌, ◌||◌}
use mathlib.Core.Logic.{◌⊎◌, inl, inr, ⊎_elim}
use mathlib.Core.List.{List}
use Prim.Native.Nat.{ℕ, ◌+◌, ◌/◌, ◌≤◌, ◌<◌}
use native.Mathlib.Omega.{arith}
use borrow.Author.Tests.{ne_eqb}
use lib.Dec.{eqb}
use lib.ListN.{length}
use Rattle.event.specs.declared.Event.{Event}
use Rattle.event.specs.Event.{event_at}
use Rattle.machine.specs.declared.Options.{Options}
use Rattle.state_whole.specs.declared.Whole.{Whole}
use Rattle.state_whole.specs.Whole.{World}
use Rattle.dispatch_turns.specs.Passing.{is_here, stays_inside}
use Rattle.run_next.specs.Idle.{Idles}
use Rattle.run_next.specs.declared.Place.{Place}
use Rattle.run_next.specs.Reach.{wanted}
use Rattle.run_next.specs.Walks.{Steps, PassesOver, Walks, Ahead}
use Rattle.run_next.proofs.Turned.{skips, stays-so}

-- ---- where an event is

or_no : (x : Bool) → x ≡ (x || false)
or_no true = refl
or_no false = refl

module _ (e : Event) (inside : Bool) where
  pub here-inside : inside ≡ true → true ≡ is_here inside e
  unfolding is_here
  here-inside p = rw p

  module _ (p : inside ≡ false) {kind : ℕ} (q : kind ≡ e.kind) where
    pub here-exit : (kind ≡ 0 → ⊥) → false ≡ is_here inside e
    unfolding is_here
    here-exit h = rw (p, ← q, ne_eqb kind 0 h)

    pub here-enter : {name : ℕ} → kind ≡ 0 → name ≡ e.name → eqb name 53 ≡ is_here inside e
    unfolding is_here
    here-enter {name} h l = rw (p, ← q, h, ← l) (or_no (eqb name 53))

  pub stays_out : is_here inside e ≡ false → false ≡ stays_inside inside e
  unfolding stays_inside
  stays_out p = rw p

  module _ (p : is_here inside e ≡ true) {kind : ℕ} (q : kind ≡ e.kind) where
    pub stays-entered : kind ≡ 0 → true ≡ stays_inside inside e
    unfolding stays_inside
    stays-entered h = rw (p, ← q, h)

    pub stays_by : {name : ℕ} → (kind ≡ 0 → ⊥) → name ≡ e.name → not (eqb name 53) ≡ stays_inside inside e
    unfolding stays_inside
    stays_by {name} h l = rw (p, ← q, ne_eqb kind 0 h, ← l) (ap not (or_no (eqb name 53)))

  module _ {first r : Bool} (q : r ≡ is_here inside e) where
    pub wanted-first : first ≡ true → r ≡ wanted first inside e
    wanted-first p = rw (p, q)

    pub wanted-second : first ≡ false → not r ≡ wanted first inside e
    wanted-second p = rw (p, q)

-- ---- what is left out

either : (x : Bool) → (x ≡ true) ⊎ (x ≡ false)
either true = inl refl
either false = inr refl

no-clash : {A : Type 0} → true ≡ false → A
no-clash z = let y : ◌≡◌ {A = ℕ} 0 1 = cc in absurd (omega arith)

module _ {first inside : Bool} (e : Event) {x : Bool} (p : x ≡ wanted first inside e) where
  pub leaves-idle : {kind name : ℕ} {r : Bool} → x ≡ true → kind ≡ e.kind → name ≡ e.name → Idles kind name r → PassesOver first inside e r
  leaves-idle z k n h = record { left = λ q w. h.idles e (sym k) (sym n) q; taken = λ q. sym p ∙ z }

  pub leaves-other : x ≡ false → PassesOver first inside e true
  leaves-other z = record { left = λ q w. no-clash (sym w ∙ sym p ∙ z); taken = λ q. no-clash q }

module _ {first : Bool} {text events : List ℕ} {o : Options} where
  module _ {b : Whole} {w : World} {inside : Bool} {i : ℕ} {r : Whole} {w' : World} (h : i < length events / 20) (k : Steps first text events o b w inside i r w') where
    pub left_out : {next x : Bool} → next ≡ stays_inside inside (event_at events i) → PassesOver first inside (event_at events i) x → x ≡ true → Steps first text events o b w next (i + 1) r w'
    left_out m l q =
        ⊎_elim (λ z. rw m (record { reached = stays-so first o inside i h k.reached (l.left q z) z; long = k.long })) (λ z. rw m (record { reached = skips first o inside i h k.reached z; long = k.long }))
        (either (wanted first inside (event_at events i)))

-- ---- on to the next event

module _ {first : Bool} {events : List ℕ} where
  pub walks-start : {inside : Bool} {i : ℕ} → Walks first events inside i inside i
  walks-start = record { goes = λ k. k; later = omega arith }

  module _ {p : Place} {inside : Bool} {i : ℕ} (k : Walks first events p.inside p.at inside i) where
    pub walks-on : {next x : Bool} → i < length events / 20 → next ≡ stays_inside inside (event_at events i) → PassesOver first inside (event_at events i) x → x ≡ true → Walks first events p.inside p.at next (i + 1)
    walks-on h m l q = let z = k.later in record { goes = λ s. left_out h (k.goes s) m l q; later = omega arith }

    pub ahead-here : {x : Bool} → PassesOver first inside (event_at events i) x → x ≡ false → Ahead first events p (record { at = i; inside = inside })
    ahead-here l q = record { walks = k; here = λ h. l.taken q }

    pub ahead-end : length events / 20 ≤ i → Ahead first events p (record { at = i; inside = inside })
    ahead-end n = record { walks = k; here = λ h. absurd (omega arith) }

  pub jumps : {p : Place} {j : ℕ} → first ≡ true → p.inside ≡ false → Walks true events false p.at false j → Walks first events p.inside p.at false j
  jumps q z k = rw (q, z) k

  pub then-ahead : {p q r : Place} → Walks first events p.inside p.at q.inside q.at → Ahead first events q r → Ahead first events p r
  then-ahead k l = let a = k.later in let b = l.walks.later in record { walks = record { goes = λ s. l.walks.goes (k.goes s); later = omega arith }; here = l.here }

-- no event between two definitions is one
pub walks-between : {events : List ℕ} {from i : ℕ} {x : Bool} → Walks true events false from false i → i < length events / 20 → x ≡ is_here false (event_at events i) → x ≡ false → Walks true events false from false (i + 1)
walks-between {events} {from} {i} k h p q = walks-on {p = record { at = from; inside = false }} k h (stays_out (event_at events i) false (sym p ∙ q)) (leaves-other (event_at events i) (wanted-first (event_at events i) false p refl) q) refl

-- by the name first
and_no : (x : Bool) → false ≡ (x && false)
and_no true = refl
and_no false = refl

and_yes : (x : Bool) → x ≡ (x && true)
and_yes true = refl
and_yes false = refl

module _ (e : Event) {name : ℕ} (n : name ≡ e.name) where
  pub of-another : (name ≡ 53 → ⊥) → false ≡ is_here false e
  unfolding is_here
  of-another h = rw (← n, ne_eqb name 53 h) (and_no (eqb e.kind 0))

  pub of-definition : {kind : ℕ} → name ≡ 53 → kind ≡ e.kind → eqb kind 0 ≡ is_here false e
  unfolding is_here
  of-definition {kind} h k = rw (← k, ← n, h) (and_yes (eqb kind 0))
