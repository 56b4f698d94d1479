-- An item value's digits one by one, and the attributes that are written. Assumes nothing.
use Rattle.std.specs.Prelude.{Option, Some, None}
use Rattle.std.specs.Prelude.{if◌then◌else◌}
use mathlib.Core.Path.{◌≡◌, refl}
use mathlib.Core.Bool.{Bool, true, false}
use mathlib.Core.List.{List, []}
use Prim.Native.Nat.{ℕ, suc, ◌+◌, ◌-◌, ◌*◌, ◌^◌, ◌≤◌, ◌<◌}
use native.Mathlib.Nat.{pow-suc, pow-le-pow_right}
use native.Mathlib.Decide.{dec_lt}
use native.Mathlib.Numerals.{add-one}
use native.Mathlib.Omega.{arith}
use borrow.Author.Tests.{lt-ltb, le-ltb, ne_eqb}
use mir.Val.{Fits}
use mir.Syntax.{w64}
use lib.Dec.{lit<, lit≤}
use lib.ListN.{length, drop, get_or, drop_of_length-le}
use Rattle.lent.specs.Bytes.{bytes, all}
use Rattle.lent.specs.Fill.{Filled}
use Rattle.lent.proofs.Laws.{next, none, both}
use Rattle.character_reference.specs.Reference.{digit_value, is_digit_of, are_digits, number_from, from_digits}
use Rattle.character_reference.proofs.Numbers.{below, above, inside, digit, upper-case, lower-case, no-digit₁, no-digit₂, no-digit₃, no-digit₄}
use Rattle.machine.specs.Outcome.{stop, go}
use Rattle.machine.specs.Text.{decimal, start_text, start_of, align_text}
use Rattle.write_pieces.specs.Written.{written, number_in}

-- ---- digits of base 10

no-small-digit : (b : ℕ) → 57 < b → 10 ≤ digit_value b
no-small-digit b h = elim (dec_lt b 65) [
  | yes a ↦ rw (← no-digit₂ b (omega arith) a) (lit≤ tt)
  | no a ↦ elim (dec_lt b 71) [
    | yes c ↦ omega (arith, upper-case b (omega arith) c)
    | no c ↦ elim (dec_lt b 97) [
      | yes e ↦ rw (← no-digit₃ b (omega arith) e) (lit≤ tt)
      | no e ↦ elim (dec_lt b 103) [
        | yes f ↦ omega (arith, lower-case b (omega arith) f)
        | no f ↦ rw (← no-digit₄ b (omega arith)) (lit≤ tt)
      ]
    ]
  ]
]

-- what the digits left say, behind those that say n
abbrev pub number_left : ℕ → List ℕ → Option ℕ
number_left n s = if all (is_digit_of 10) s then Some (number_from 10 n s) else None

module _ (s : List ℕ) where
  pub none-there : length s < 1 → None ≡ number_in s
  unfolding number_in
  none-there h = rw (below 1 9 (length s) h)

  pub too_many : 9 < length s → None ≡ number_in s
  unfolding number_in
  too_many h = rw (above 1 9 (length s) h)

  pub all_left : 1 ≤ length s → length s ≤ 9 → number_left 0 (drop 0 s) ≡ number_in s
  unfolding number_in
  all_left h k = rw (inside 1 9 (length s) h k)

module _ (n i : ℕ) (s : List ℕ) (v : Option ℕ) (h : i < length s) (left : number_left n (drop i s) ≡ v) where
  pub below-digits : get_or s i 0 < 48 → None ≡ v
  below-digits k = rw (next s i h, ← no-digit₁ (get_or s i 0) k) at left

  pub above-digits : 57 < get_or s i 0 → None ≡ v
  above-digits k = rw (next s i h, le-ltb (digit_value (get_or s i 0)) 10 (no-small-digit (get_or s i 0) k)) at left

  pub next-digit : 48 ≤ get_or s i 0 → get_or s i 0 ≤ 57 → number_left (n * 10 + (get_or s i 0 - 48)) (drop (i + 1) s) ≡ v
  next-digit k m =
      let e : get_or s i 0 - 48 ≡ digit_value (get_or s i 0) = digit (get_or s i 0) k (omega arith) in
      let l : digit_value (get_or s i 0) < 10 = omega arith in
      rw e (rw (next s i h, lt-ltb (digit_value (get_or s i 0)) 10 l) at left)

pub no-digit-left : (n i : ℕ) (s : List ℕ) (v : Option ℕ) → length s ≤ i → number_left n (drop i s) ≡ v → Some n ≡ v
no-digit-left n i s v h left = rw (drop_of_length-le s h) at left

-- up to nine digits say less than 2 ^ 64
module _ (n i : ℕ) (s : List ℕ) (l : length s ≤ 9) (h : i < length s) (small : n < 10 ^ i) where
  most : 10 ^ i ≤ 10 ^ 9
  most = let e : i ≤ 9 = omega arith in pow-le-pow_right (lit< tt) e

  pub product-fits : Fits w64 (n * 10)
  product-fits = record { fits = omega (arith, most) }

  module _ (k : get_or s i 0 ≤ 57) where
    pub grows : n * 10 + (get_or s i 0 - 48) < 10 ^ (i + 1)
    grows = rw (add-one, pow-suc) (omega arith)

    pub sum_fits : Fits w64 (n * 10 + (get_or s i 0 - 48))
    sum_fits = record { fits = omega (arith, most) }

-- ---- the attribute of a list

-- by what its value says
abbrev attribute : Option ℕ → List ℕ
attribute (Some n) = start_text n
attribute None = []

attribute-is : (s : List ℕ) → written (start_of s) ≡ attribute (number_in s)
unfolding start_of number_in
attribute-is s = on (are_digits 10 9 s)
  where
    on : (t : Bool) → written (if t then go (start_text (from_digits 10 s)) else stop) ≡ attribute (if t then Some (from_digits 10 s) else None)
    on true = refl
    on false = refl

module _ (s : List ℕ) (v : Option ℕ) (e : v ≡ number_in s) where
  pub starts : {d f : List ℕ} {at r : ℕ} (n : ℕ) → v ≡ Some n → Filled d at (start_text n) f r → Filled d at (written (start_of s)) f r
  starts n p q = rw (attribute-is s, ← e, p) q

  pub starts-not : (d : List ℕ) (at : ℕ) → v ≡ None → Filled d at (written (start_of s)) d at
  starts-not d at p = rw (attribute-is s, ← e, p) (none d at)

module _ (n : ℕ) where
  pub start-one : (d : List ℕ) (at : ℕ) → n ≡ 1 → Filled d at (start_text n) d at
  start-one d at p = rw p (none d at)

  pub start-other : {d e f g : List ℕ} {at p q r : ℕ} → (n ≡ 1 → ⊥) → Filled d at (bytes " start=\"") e p → Filled e p (decimal n) f q → Filled f q (bytes "\"") g r → Filled d at (start_text n) g r
  start-other h x y z = rw (ne_eqb n 1 h) (both x (both y z))

-- ---- the attribute of a cell

module _ {d e : List ℕ} {at r : ℕ} (a : ℕ) where
  pub align-left : a ≡ 1 → Filled d at (bytes " align=\"left\"") e r → Filled d at (align_text a) e r
  align-left p f = rw p f

  pub align-right : a ≡ 2 → Filled d at (bytes " align=\"right\"") e r → Filled d at (align_text a) e r
  align-right p f = rw p f

  pub align-center : (a ≡ 0 → ⊥) → (a ≡ 1 → ⊥) → (a ≡ 2 → ⊥) → Filled d at (bytes " align=\"center\"") e r → Filled d at (align_text a) e r
  align-center x y z f = let q : a ≡ suc (suc (suc (a - 3))) = omega arith in rw q f

pub align-none : (d : List ℕ) (at a : ℕ) → a ≡ 0 → Filled d at (align_text a) d at
align-none d at a p = rw p (none d at)
