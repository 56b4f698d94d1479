-- What a later event of the same element asks for: set, counted, asked. Assumes nothing.
use Rattle.std.proofs.Common.{Some, None, is_some, ◌≡◌, refl, sym, ap, ◌∙◌, Bool, true, false, List, ℕ, zero, suc, ◌<◌, arith, eqb}
use Rattle.std.specs.Prelude.{Option as CodeOption}
use Rattle.std.proofs.Math.Option.{Option, none, some}
use Rattle.machine.specs.State.{State}
use Rattle.machine.specs.Outcome.{go, need}
use Rattle.machine.specs.Set.{set_rank, set_seen, set_marker, set_first}
use Rattle.machine.specs.Test.{has_rank, has_seen_data, is_first_marker, has, test}
use Rattle.machine.specs.Command.{exec}
use Rattle.machine.specs.Words.{seen_data, marker, first, forget_rank}
use Rattle.machine.proofs.Outcomes.{never}
use Rattle.character_reference.specs.declared.Marker.{Marker}
use Rattle.character_reference.specs.declared.Marker.TheVariants as C
use Rattle.machine_bounded.specs.Within.{within}
use Rattle.packed.specs.Word.{digit_of}
use Rattle.state_context.specs.declared.Context.{Context}
use Rattle.state_context.specs.Private.{Digit}
use Rattle.state_context.specs.Rel.{Rel, Any, Sets, Tells, Ranks, MarkIs, ForgetsMarker, rank_of, mark_of, answer_digit, mark_digit}
use Rattle.state_context.proofs.Plain.{stands, setting}
use Rattle.state_context.proofs.Digits.{other, rel-waits}

-- ---- answers

pub answer-small : {d : ℕ} (x : Option Bool) → d ≡ answer_digit x → d < 4
answer-small none e = omega arith
answer-small (some true) e = omega arith
answer-small (some false) e = omega arith

pub sees : {d : ℕ} {c r : Context} (x : Option Bool) → d ≡ answer_digit x → Digit 5 d c r → Sets (seen_data x) c r
unfolding exec within
sees x e k =
    let p = k.placed in
    rw k.is (setting (set_seen x) (λ t s. refl)
    (λ w o b s i r.
    let v = r.waits in
    rel-waits (omega arith) (omega arith) p r (record { rank = v.rank; seen = p.here ∙ e; fences = other 6 refl p ∙ v.fences; marker = other 7 refl p ∙ v.marker; first = other 8 refl p ∙ v.first })))

sets_first : {d : ℕ} {c r : Context} (x : Bool) → d ≡ answer_digit (some x) → Digit 8 d c r → Sets (first x) c r
unfolding exec within
sets_first x e k =
    let p = k.placed in
    rw k.is (setting (set_first (some x)) (λ t s. refl)
    (λ w o b s i r.
    let v = r.waits in
    rel-waits (omega arith) (omega arith) p r (record { rank = v.rank; seen = other 5 refl p ∙ v.seen; fences = other 6 refl p ∙ v.fences; marker = other 7 refl p ∙ v.marker; first = p.here ∙ e })))

pub first-yes : {c r : Context} {x : Bool} → x ≡ true → Digit 8 1 c r → Sets (first x) c r
first-yes {x = x} h k = sets_first x (rw h) k

pub first-no : {c r : Context} {x : Bool} → x ≡ false → Digit 8 2 c r → Sets (first x) c r
first-no {x = x} h k = sets_first x (rw h) k

answer-of : (f : Option Bool) (y : Bool) {d : ℕ} → d ≡ answer_digit f → need f ≡ go y → y ≡ eqb d 1
answer-of none y e p = never p
answer-of (some true) y e p = let i : true ≡ y = cc in sym i ∙ rw e
answer-of (some false) y e p = let i : false ≡ y = cc in sym i ∙ rw e

module _ {c : Context} {d : ℕ} where
  pub tells-seen : d ≡ digit_of 5 c.word → Tells Any has_seen_data c (eqb d 1)
  unfolding test
  tells-seen e = record { tells = λ t w o b s y v r p. answer-of s.waiting.seen y (e ∙ r.waits.seen) p }

  pub tells-marker : d ≡ digit_of 8 c.word → Tells Any is_first_marker c (eqb d 1)
  unfolding test
  tells-marker e = record { tells = λ t w o b s y v r p. answer-of s.waiting.first y (e ∙ r.waits.first) p }

-- ---- markers

pub mark-small : {d : ℕ} (m : Marker) → d ≡ mark_digit (some m) → d < 4
mark-small C.Named e = omega arith
mark-small C.Decimal e = omega arith
mark-small C.Hexadecimal e = omega arith

rel-marked : {d : ℕ} {c : Context} {w o b : List ℕ} {s : State} (x : Option Marker) {r : Context} → d ≡ mark_digit x → Digit 7 d c r → Rel c w o b s → Rel r w o b (set_marker x s)
rel-marked x e k r =
    let p = k.placed in
    let v = r.waits in
    rw k.is (rel-waits (omega arith) (omega arith) p r (record { rank = v.rank; seen = other 5 refl p ∙ v.seen; fences = other 6 refl p ∙ v.fences; marker = p.here ∙ e; first = other 8 refl p ∙ v.first }))

pub marked : {d : ℕ} {c r : Context} (m : Marker) → d ≡ mark_digit (some m) → Digit 7 d c r → Sets (marker m) c r
unfolding exec within
marked m e k = setting (set_marker (some m)) (λ t s. refl) (λ w o b s i r. rel-marked (some m) e k r)

pub unmarked : {c r : Context} → Digit 7 0 c r → ForgetsMarker c r
unmarked k = record { forgets = λ w o b s r. rel-marked none refl k r }

-- the marker of a digit
abbrev mark_at : ℕ → Option Marker
mark_at zero = none
mark_at (suc zero) = some C.Named
mark_at (suc (suc zero)) = some C.Decimal
mark_at (suc (suc (suc n))) = some C.Hexadecimal

mark-back : (m : Option Marker) → mark_at (mark_digit m) ≡ m
mark-back none = refl
mark-back (some C.Named) = refl
mark-back (some C.Decimal) = refl
mark-back (some C.Hexadecimal) = refl

module _ {c : Context} {d : ℕ} (e : d ≡ digit_of 7 c.word) where
  mark-at : {x : CodeOption Marker} → mark_of x ≡ mark_at d → MarkIs c x
  mark-at q = record { mark-is = λ w o b s r. q ∙ ap mark_at (e ∙ r.waits.marker) ∙ mark-back s.waiting.marker }

  pub no-mark : d ≡ 0 → MarkIs c None
  no-mark z = mark-at (rw z)

  pub named : d ≡ 1 → MarkIs c (Some C.Named)
  named z = mark-at (rw z)

  pub decimal : d ≡ 2 → MarkIs c (Some C.Decimal)
  decimal z = mark-at (rw z)

  pub hexadecimal : (d ≡ 0 → ⊥) → (d ≡ 1 → ⊥) → (d ≡ 2 → ⊥) → MarkIs c (Some C.Hexadecimal)
  hexadecimal x y z = mark-at (on d x y z)
    where
      on : (n : ℕ) → (n ≡ 0 → ⊥) → (n ≡ 1 → ⊥) → (n ≡ 2 → ⊥) → some C.Hexadecimal ≡ mark_at n
      on zero x y z = absurd (x refl)
      on (suc zero) x y z = absurd (y refl)
      on (suc (suc zero)) x y z = absurd (z refl)
      on (suc (suc (suc n))) x y z = refl

-- ---- the rank

pub ranked : {c : Context} (x : CodeOption ℕ) → Ranks x c (record { buffers = c.buffers; word = c.word; rank = x; tight = c.tight; table = c.table })
ranked x = record {
  ranks = λ w o b s r.
      let v = r.waits in
      record { stand = stands r.stand refl refl; flags = r.flags; waits = record { rank = refl; seen = v.seen; fences = v.fences; marker = v.marker; first = v.first }; tight = r.tight; table = r.table; fixed = r.fixed };
}

pub forgets : {c r : Context} → Ranks None c r → Sets forget_rank c r
unfolding exec within
forgets k = setting (set_rank none) (λ t s. refl) (λ w o b s i r. k.ranks w o b s r)

rank-of : (x : CodeOption ℕ) (f : Option ℕ) (y : Bool) → rank_of x ≡ f → go (has (λ n. true) f) ≡ go y → y ≡ is_some x
rank-of None f y h p = let z : go false ≡ go y = rw (← h) at p in let e : false ≡ y = cc in sym e
rank-of (Some n) f y h p = let z : go true ≡ go y = rw (← h) at p in let e : true ≡ y = cc in sym e

module _ {c : Context} where
  pub tells-rank : Tells Any has_rank c (is_some c.rank)
  unfolding test
  tells-rank = record { tells = λ t w o b s y v r p. rank-of c.rank s.waiting.rank y r.waits.rank p }
