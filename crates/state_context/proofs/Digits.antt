-- One digit of the word set: the flags, and what waits. Assumes nothing.
use Rattle.std.proofs.Common.{◌≡◌, refl, sym, ap, ◌∙◌, Bool, true, false, not, List, ℕ, ◌≤◌, ◌<◌, arith, eqb}
use Rattle.std.specs.Prelude.{Option as CodeOption}
use mir.Val.{bool_byte}
use borrow.Author.Tests.{eqb-false}
use Rattle.machine.specs.State as State
use Rattle.machine.specs.State.{State}
use Rattle.machine.specs.Set.{Flag, slurp, encode, raw, alt, head, with_flag, flag_of, set_flag, set_waiting}
use Rattle.machine.specs.Test.{test}
use Rattle.machine.specs.Command.{exec}
use Rattle.machine_bounded.specs.Within.{within}
use Rattle.packed.specs.Word.{digit_of, Placed}
use Rattle.state_context.specs.declared.Context.{Context}
use Rattle.state_context.specs.Rel.{Rel, Waits, place_of, is_on, flags_of, fixed_in}
use Rattle.state_context.specs.Private.{with_word, Digit, SetsFlag, TellsFlag}
use Rattle.state_context.proofs.Plain.{stands, setting}

pub other : {k x w r : ℕ} (j : ℕ) → eqb j k ≡ false → Placed k x w r → digit_of j r ≡ digit_of j w
other {k} j h p = p.others j (eqb-false j k h)

-- what never changes stands behind all that does
still-fixed : {k x w r : ℕ} → k < 9 → Placed k x w r → fixed_in r ≡ fixed_in w
still-fixed h p = rw (p.others 9 (λ e. omega arith), p.others 10 (λ e. omega arith), p.others 11 (λ e. omega arith))

-- ---- flags

-- what waits stands elsewhere
still-waits : {k x w r : ℕ} {n : CodeOption ℕ} {a : State.Waiting} → k < 5 → Placed k x w r → Waits w n a → Waits r n a
still-waits h p v =
    record {
      rank = v.rank;
      seen = p.others 5 (λ e. omega arith) ∙ v.seen;
      fences = p.others 6 (λ e. omega arith) ∙ v.fences;
      marker = p.others 7 (λ e. omega arith) ∙ v.marker;
      first = p.others 8 (λ e. omega arith) ∙ v.first;
    }

low-place : (f : Flag) → place_of f < 5
low-place slurp = omega arith
low-place encode = omega arith
low-place raw = omega arith
low-place alt = omega arith
low-place head = omega arith

one-flag : (f : Flag) {d w r : ℕ} → Placed (place_of f) d w r → flags_of r ≡ with_flag f (not (eqb d 0)) (flags_of w)
one-flag slurp p = rw (p.here, other 1 refl p, other 2 refl p, other 3 refl p, other 4 refl p)
one-flag encode p = rw (other 0 refl p, p.here, other 2 refl p, other 3 refl p, other 4 refl p)
one-flag raw p = rw (other 0 refl p, other 1 refl p, p.here, other 3 refl p, other 4 refl p)
one-flag alt p = rw (other 0 refl p, other 1 refl p, other 2 refl p, p.here, other 4 refl p)
one-flag head p = rw (other 0 refl p, other 1 refl p, other 2 refl p, other 3 refl p, p.here)

sets-flag : {k d : ℕ} {c r : Context} (x : Bool) → not (eqb d 0) ≡ x → Digit k d c r → SetsFlag k x c r
unfolding exec within
sets-flag {d = d} x e k = record {
  sets-flag = λ f q.
      let p = rw (← q) at k.placed in
      rw (k.is, ← e) (setting (set_flag f (not (eqb d 0))) (λ t s. refl)
      (λ w o b s i r.
      record { stand = stands r.stand refl refl; flags = one-flag f p ∙ ap (with_flag f (not (eqb d 0))) r.flags; waits = still-waits (low-place f) p r.waits; tight = r.tight; table = r.table; fixed = still-fixed (omega (arith, low-place f)) p ∙ r.fixed }));
}

pub flag-set : {k d : ℕ} {c r : Context} (x : Bool) → d ≡ bool_byte x → Digit k d c r → SetsFlag k x c r
flag-set true e k = sets-flag true (rw e) k
flag-set false e k = sets-flag false (rw e) k

flag_is : (f : Flag) (w : ℕ) → flag_of f (flags_of w) ≡ is_on w f
flag_is slurp w = refl
flag_is encode w = refl
flag_is raw w = refl
flag_is alt w = refl
flag_is head w = refl

pub tells-flag : {k d : ℕ} {c : Context} → d ≡ digit_of k c.word → TellsFlag k c (not (eqb d 0))
unfolding test
tells-flag {c = c} e = record {
  tells-flag = λ f q. record {
    tells = λ t w o b s y v x p.
        let z : flag_of f s.flags ≡ y = cc in
        sym z ∙ ap (flag_of f) (sym x.flags) ∙ flag_is f c.word ∙ rw (q, e);
  };
}

-- ---- what waits

-- the flags stand elsewhere
still-flags : {k x w r : ℕ} → 5 ≤ k → Placed k x w r → flags_of r ≡ flags_of w
still-flags h p = rw (p.others 0 (λ e. omega arith), p.others 1 (λ e. omega arith), p.others 2 (λ e. omega arith), p.others 3 (λ e. omega arith), p.others 4 (λ e. omega arith))

pub rel-waits : {k x v : ℕ} {c : Context} {w o b : List ℕ} {s : State} {a : State.Waiting} → 5 ≤ k → k < 9 → Placed k x c.word v → Rel c w o b s → Waits v c.rank a → Rel (with_word v c) w o b (set_waiting a s)
rel-waits h l p r a = record { stand = stands r.stand refl refl; flags = still-flags h p ∙ r.flags; waits = a; tight = r.tight; table = r.table; fixed = still-fixed l p ∙ r.fixed }
