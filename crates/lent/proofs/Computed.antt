-- What holds of each number below n by computation, and tests as facts. Assumes nothing.
use Rattle.std.proofs.Common.{◌≡◌, refl, sym, subst, ⊎_elim, Bool, true, false, ◌&&◌, ◌||◌, ℕ, zero, suc, suc-le-suc, ◌≤◌, ◌<◌, le_of_suc-le-suc, not-suc-le-zero, eq-or-lt_of_le, le-ltb, T, leb, ltb, leb→le, le→leb}
use Rattle.std.proofs.Math.Bool.{beq}
use Rattle.lent.specs.Bytes.{between}

-- ---- tests

pub is_true : (t : Bool) → T t → t ≡ true
is_true true h = refl
is_true false h = absurd h

pub and_left : (a b : Bool) → T (a && b) → T a
and_left true b t = tt
and_left false b t = t

pub and_right : (a b : Bool) → T (a && b) → T b
and_right true b t = t
and_right false b t = absurd t

pub and_both : (a b : Bool) → T a → T b → T (a && b)
and_both true b t u = u
and_both false b t u = t

pub within : (lo hi b : ℕ) → lo ≤ b → b ≤ hi → T (between lo hi b)
within lo hi b h k = and_both (leb lo b) (leb b hi) (le→leb lo b h) (le→leb b hi k)

pub from : (lo hi b : ℕ) → T (between lo hi b) → lo ≤ b
from lo hi b t = leb→le lo b (and_left (leb lo b) (leb b hi) t)

pub to : (lo hi b : ℕ) → T (between lo hi b) → b ≤ hi
to lo hi b t = leb→le b hi (and_right (leb lo b) (leb b hi) t)

-- ---- every number below n

abbrev pub all_below : ℕ → (ℕ → Bool) → Bool
all_below zero f = true
all_below (suc n) f = f n && all_below n f

pub computed : (f : ℕ → Bool) (n : ℕ) → T (all_below n f) → (k : ℕ) → k < n → T (f k)
computed f zero t k h = absurd (not-suc-le-zero h)
computed f (suc n) t k h =
    ⊎_elim (λ e. subst (λ (m : ℕ). T (f m)) (sym e) (and_left (f n) (all_below n f) t)) (λ l. computed f n (and_right (f n) (all_below n f) t) k l)
    (eq-or-lt_of_le (le_of_suc-le-suc h))

-- each number from lo to hi
pub ranged : (lo hi : ℕ) (f : ℕ → Bool) → T (all_below (suc hi) (λ k. ltb k lo || f k)) → (k : ℕ) → lo ≤ k → k ≤ hi → T (f k)
ranged lo hi f t k h l = let u = computed (λ k. ltb k lo || f k) (suc hi) t k (suc-le-suc l) in rw (le-ltb k lo h) at u

pub bounded : (lo hi : ℕ) (f g : ℕ → ℕ) → T (all_below (suc hi) (λ k. ltb k lo || leb (f k) (g k))) → (k : ℕ) → lo ≤ k → k ≤ hi → f k ≤ g k
bounded lo hi f g t k h l = leb→le (f k) (g k) (ranged lo hi (λ k. leb (f k) (g k)) t k h l)

-- two tests that agree by computation agree
same_test : (a b : Bool) → T (beq a b) → a ≡ b
same_test true true t = refl
same_test false false t = refl
same_test true false t = absurd t
same_test false true t = absurd t

pub agree : (f g : ℕ → Bool) (n : ℕ) → T (all_below n (λ k. beq (f k) (g k))) → (k : ℕ) → k < n → f k ≡ g k
agree f g n t k h = same_test (f k) (g k) (computed (λ k. beq (f k) (g k)) n t k h)
