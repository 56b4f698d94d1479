-- A number in decimal: its digits but the last, and then that. A run of spaces, one by one. Assumes nothing.
use mathlib.Core.Path.{◌≡◌, refl, sym, ap, ◌∙◌}
use mathlib.Core.List.{List, [], ◌∷◌, ◌++◌}
use Prim.Native.Nat.{ℕ, zero, suc, ◌+◌, ◌-◌, ◌/◌, ◌%◌, ◌≤◌, ◌<◌}
use native.Mathlib.Decide.{dec_lt}
use native.Mathlib.Nat.{div-lt_self}
use native.Mathlib.Omega.{arith}
use borrow.Author.Tests.{lt-ltb, le-ltb}
use lib.Dec.{lit<}
use lib.ListN.{replicate}
use Rattle.lent.specs.Fill.{Filled}
use Rattle.lent.proofs.Laws.{both}
use Rattle.machine.specs.Text.{digits_from, decimal}

-- ---- one more digit

one-digit : (k n : ℕ) (behind : List ℕ) → n < 10 → digits_from (suc k) n behind ≡ (48 + n) ∷ behind
unfolding digits_from
one-digit k n behind h = rw (lt-ltb n 10 h, digits_from)

more-digits : (k n : ℕ) (behind : List ℕ) → 10 ≤ n → digits_from (suc k) n behind ≡ digits_from k (n / 10) ((48 + n % 10) ∷ behind)
unfolding digits_from
more-digits k n behind h = rw (le-ltb n 10 h, digits_from)

pub shrinks : (n : ℕ) → 10 ≤ n → n / 10 < n
shrinks n h = div-lt_self (omega arith) (lit< tt)

-- what stands behind stays behind
in-front : (k n : ℕ) (a b : List ℕ) → digits_from k n (a ++ b) ≡ digits_from k n a ++ b
unfolding digits_from
in-front zero n a b = refl
in-front (suc k) n a b = elim (dec_lt n 10) [
  | yes x ↦ rw (one-digit k n (a ++ b) x, one-digit k n a x)
  | no x ↦ (let y : 10 ≤ n = omega arith in rw (more-digits k n (a ++ b) y, more-digits k n a y) (in-front k (n / 10) ((48 + n % 10) ∷ a) b))
]

-- more digits are allowed than there are: it makes no difference how many
enough : (k l n : ℕ) (behind : List ℕ) → n < k → n < l → digits_from k n behind ≡ digits_from l n behind
enough zero l n behind h m = absurd (omega arith)
enough (suc k) zero n behind h m = absurd (omega arith)
enough (suc k) (suc l) n behind h m = elim (dec_lt n 10) [
  | yes x ↦ one-digit k n behind x ∙ sym (one-digit l n behind x)
  | no x ↦ (let y : 10 ≤ n = omega arith in let z = shrinks n y in
      more-digits k n behind y ∙ enough k l (n / 10) ((48 + n % 10) ∷ behind) (omega arith) (omega arith) ∙ sym (more-digits l n behind y))
]

decimal-one : (n : ℕ) → n < 10 → decimal n ≡ (48 + n) ∷ []
unfolding decimal
decimal-one n h = one-digit n n [] h

decimal-more : (n : ℕ) → 10 ≤ n → decimal n ≡ decimal (n / 10) ++ ((48 + n % 10) ∷ [])
unfolding decimal
decimal-more n h =
    more-digits n n [] h
    ∙ in-front n (n / 10) [] ((48 + n % 10) ∷ [])
    ∙ ap (λ (x : List ℕ). x ++ ((48 + n % 10) ∷ [])) (enough n (suc (n / 10)) (n / 10) [] (shrinks n h) (omega arith))

-- ---- the code's own cases

module _ {d e : List ℕ} {at r : ℕ} (n : ℕ) where
  pub last-digit : (b : ℕ) → n < 10 → b ≡ 48 + n → Filled d at (b ∷ []) e r → Filled d at (decimal n) e r
  last-digit b h p f = rw (decimal-one n h, ← p) f

  pub behind-digits : {g : List ℕ} {m : ℕ} (b : ℕ) → 10 ≤ n → b ≡ 48 + n % 10 → Filled d at (decimal (n / 10)) g m → Filled g m (b ∷ []) e r → Filled d at (decimal n) e r
  behind-digits b h p f k = rw (decimal-more n h, ← p) (both f k)

-- ---- spaces

pub space-more : (n k : ℕ) → k < n → replicate {A = ℕ} (n - k) 32 ≡ (32 ∷ []) ++ replicate (n - (k + 1)) 32
space-more n k h = let e : n - k ≡ suc (n - (k + 1)) = omega arith in ap (λ (m : ℕ). replicate {A = ℕ} m 32) e

pub space-end : (n k : ℕ) → n ≤ k → replicate {A = ℕ} (n - k) 32 ≡ []
space-end n k h = let e : n - k ≡ 0 = omega arith in rw e
