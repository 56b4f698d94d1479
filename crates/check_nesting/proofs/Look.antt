-- What the tables say of an element and of an exit. Assumes nothing.
use Rattle.std.proofs.Common.{Option, Some, None, ◌≡◌, refl, sym, ◌∙◌, Bool, true, false, List, ℕ, ◌+◌, ◌*◌, ◌≤◌, ◌<◌, arith, get_or, eq-eqb, ne_eqb, le-leb}
use mathlib.Core.Bool.{and-false}
use borrow.Author.Tests.{lt-leb}
use Rattle.event.specs.Event.{name_count}
use Rattle.check_nesting.specs.Pass.{Rest, Turn, refused, entered, turn, may_end, Open, leave}
use Rattle.check_nesting.specs.Tables.{state, flag, into, Enters, Leaves, States}
use Rattle.check_nesting.proofs.Step.{no-turn}

-- ---- an element

pub of_none : (q n : ℕ) → name_count ≤ n → Enters (turn (state q) n) None
of_none q n h = rw (no-turn (state q) n h) tt

-- what an answer says
pub is-refused : (t : Turn) → Enters t None → t ≡ refused
is-refused refused a = refl
is-refused (entered inside behind) a = absurd a

pub record Entered (q n x y : ℕ) : Type 0 where
  pub turns : turn (state q) n ≡ entered (state x) (state y)
  pub inside-state : x < 48
  pub behind-state : y < 48

pub is-entered : (q n : ℕ) (t : Turn) (x y : ℕ) → turn (state q) n ≡ t → Enters t (into x y) → Entered q n x y
is-entered q n refused x y e a = absurd a
is-entered q n (entered inside behind) x y e a = record { turns = rw (a.0.1, a.1.1) e; inside-state = a.0.0; behind-state = a.1.0 }

-- ---- an exit

module _ {ss : List ℕ} (rows : States ss) (q : ℕ) (known : q < 48) where
  ended : get_or ss (q * 2 + 1) 0 ≡ 0 → may_end (state q) ≡ false
  ended e = pick (may_end (state q)) (sym (rows.ends q known) ∙ e)
    where
      pick : (t : Bool) → flag t ≡ 0 → t ≡ false
      pick true p = absurd (omega arith)
      pick false p = refl

  unended : (get_or ss (q * 2 + 1) 0 ≡ 0 → ⊥) → may_end (state q) ≡ true
  unended e = pick (may_end (state q)) (λ p. e (rows.ends q known ∙ p))
    where
      pick : (t : Bool) → (flag t ≡ 0 → ⊥) → t ≡ true
      pick true p = refl
      pick false p = absurd (p refl)

  module _ (n opened behind : ℕ) where
    abbrev o : Open
    o = record { name = opened; behind = state behind }

    pub of-older : (opened ≡ n → ⊥) → Leaves (leave (state q) o n) None
    unfolding leave
    of-older e = rw (ne_eqb opened n e) tt

    pub goes_through : opened ≡ n → n ≤ 2 → Leaves (leave (state q) o n) (Some q)
    unfolding leave
    goes_through e h = rw (eq-eqb opened n e, le-leb n 2 h) (known, refl)

    pub unfinished : 2 < n → get_or ss (q * 2 + 1) 0 ≡ 0 → Leaves (leave (state q) o n) None
    unfolding leave
    unfinished h e = rw (lt-leb n 2 h, ended e, and-false) tt

    pub finished : opened ≡ n → 2 < n → behind < 48 → (get_or ss (q * 2 + 1) 0 ≡ 0 → ⊥) → Leaves (leave (state q) o n) (Some behind)
    unfolding leave
    finished e h k d = rw (eq-eqb opened n e, lt-leb n 2 h, unended d) (k, refl)

pub stays : (t : Option Rest) → Leaves t None → t ≡ None
stays None a = refl
stays (Some r) a = absurd a

pub leaves_to : (t : Option Rest) (x : ℕ) → Leaves t (Some x) → (x < 48) × (t ≡ Some (state x))
leaves_to None x a = absurd a
leaves_to (Some r) x a = (a.0, rw a.1)
