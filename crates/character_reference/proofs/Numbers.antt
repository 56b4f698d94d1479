-- The laws of numbers and digits: what the code's cases rest on. Assumes nothing.
use Rattle.std.proofs.Common.{Option, Some, None, ◌≡◌, sym, Bool, true, false, List, ℕ, ◌+◌, ◌-◌, ◌*◌, ◌^◌, ◌<◌, ◌≤◌, pow-suc, mul-le-mul, le_trans, le_of_eq, suc-mul, add-one, arith, lt-ltb, le-ltb, le-leb, ne_eqb, leb, lit<, length, drop, get_or, drop_of_length-le}
use Rattle.std.specs.Prelude.{if◌then◌else◌}
use Rattle.std.proofs.Math.Bool.{and-false, or-true}
use Rattle.std.proofs.Math.Nat.{pow-le-pow_right}
use borrow.Author.Tests.{lt-leb}
use mir.Val.{Fits}
use mir.Syntax.{w32}
use Rattle.lent.specs.Bytes.{between, all}
use Rattle.lent.proofs.Laws.{next}
use Rattle.character_reference.specs.Reference.{is_replaced, code_of, digit_value, is_digit_of, number_from, numeral_of}

-- ---- ranges

pub below : (lo hi b : ℕ) → b < lo → between lo hi b ≡ false
below lo hi b h = rw (lt-leb lo b h)

pub above : (lo hi b : ℕ) → hi < b → between lo hi b ≡ false
above lo hi b h = rw (lt-leb b hi h) (and-false (leb lo b))

pub inside : (lo hi b : ℕ) → lo ≤ b → b ≤ hi → between lo hi b ≡ true
inside lo hi b h k = rw (le-leb lo b h, le-leb b hi k)

-- ---- the numbers replaced, range by range

module _ (c : ℕ) where
  pub null-to-8 : c < 9 → true ≡ is_replaced c
  unfolding is_replaced
  null-to-8 h = rw (le-leb c 8 (omega arith))

  pub eleven : c ≡ 11 → true ≡ is_replaced c
  unfolding is_replaced
  eleven h = rw h

  pub tab-to-return : 9 ≤ c → c < 14 → (c ≡ 11 → ⊥) → false ≡ is_replaced c
  unfolding is_replaced
  tab-to-return h k n = rw (lt-leb c 8 h, ne_eqb c 11 n, below 14 31 c k, below 127 159 c (omega arith), below 0xD800 0xDFFF c (omega arith), le-ltb 0x10FFFF c (omega arith))

  pub controls : 14 ≤ c → c < 32 → true ≡ is_replaced c
  unfolding is_replaced
  controls h k = simp (inside 14 31 c h (omega arith), or-true)

  pub printed : 32 ≤ c → c < 127 → false ≡ is_replaced c
  unfolding is_replaced
  printed h k = rw (lt-leb c 8 (omega arith), ne_eqb c 11 (omega arith), above 14 31 c h, below 127 159 c k, below 0xD800 0xDFFF c (omega arith), le-ltb 0x10FFFF c (omega arith))

  pub more-controls : 127 ≤ c → c < 160 → true ≡ is_replaced c
  unfolding is_replaced
  more-controls h k = simp (inside 127 159 c h (omega arith), or-true)

  pub letters : 160 ≤ c → c < 0xD800 → false ≡ is_replaced c
  unfolding is_replaced
  letters h k = rw (lt-leb c 8 (omega arith), ne_eqb c 11 (omega arith), above 14 31 c (omega arith), above 127 159 c h, below 0xD800 0xDFFF c k, le-ltb 0x10FFFF c (omega arith))

  pub surrogates : 0xD800 ≤ c → c < 0xE000 → true ≡ is_replaced c
  unfolding is_replaced
  surrogates h k = simp (inside 0xD800 0xDFFF c h (omega arith), or-true)

  pub more-letters : 0xE000 ≤ c → c < 0x110000 → false ≡ is_replaced c
  unfolding is_replaced
  more-letters h k = rw (lt-leb c 8 (omega arith), ne_eqb c 11 (omega arith), above 14 31 c (omega arith), above 127 159 c (omega arith), above 0xD800 0xDFFF c h, le-ltb 0x10FFFF c (omega arith))

  pub past-the-last : 0x110000 ≤ c → true ≡ is_replaced c
  unfolding is_replaced
  past-the-last h = simp (lt-ltb 0x10FFFF c h, or-true)

  pub replaced : (x : Bool) → x ≡ is_replaced c → x ≡ true → 0xFFFD ≡ code_of c
  unfolding code_of
  replaced x e h = rw (← e, h)

  pub itself : (x : Bool) → x ≡ is_replaced c → x ≡ false → c ≡ code_of c
  unfolding code_of
  itself x e h = rw (← e, h)

pub ruleset ranges = (null-to-8, eleven, tab-to-return, controls, printed, more-controls, letters, surrogates, more-letters, past-the-last)

-- ---- digits

module _ (b : ℕ) where
  pub digit : 48 ≤ b → b < 58 → b - 48 ≡ digit_value b
  unfolding digit_value
  digit h k = rw (inside 48 57 b h (omega arith))

  pub upper-case : 65 ≤ b → b < 71 → b - 55 ≡ digit_value b
  unfolding digit_value
  upper-case h k = rw (above 48 57 b (omega arith), inside 65 70 b h (omega arith))

  pub lower-case : 97 ≤ b → b < 103 → b - 87 ≡ digit_value b
  unfolding digit_value
  lower-case h k = rw (above 48 57 b (omega arith), above 65 70 b (omega arith), inside 97 102 b h (omega arith))

  pub no-digit₁ : b < 48 → 16 ≡ digit_value b
  unfolding digit_value
  no-digit₁ h = rw (below 48 57 b h, below 65 70 b (omega arith), below 97 102 b (omega arith))

  pub no-digit₂ : 58 ≤ b → b < 65 → 16 ≡ digit_value b
  unfolding digit_value
  no-digit₂ h k = rw (above 48 57 b h, below 65 70 b k, below 97 102 b (omega arith))

  pub no-digit₃ : 71 ≤ b → b < 97 → 16 ≡ digit_value b
  unfolding digit_value
  no-digit₃ h k = rw (above 48 57 b (omega arith), above 65 70 b h, below 97 102 b k)

  pub no-digit₄ : 103 ≤ b → 16 ≡ digit_value b
  unfolding digit_value
  no-digit₄ h = rw (above 48 57 b (omega arith), above 65 70 b (omega arith), above 97 102 b h)

pub ruleset digits = (digit, upper-case, lower-case, no-digit₁, no-digit₂, no-digit₃, no-digit₄)

-- ---- digits, from the place i on

-- what the digits left say, behind those that say n
abbrev pub numeral_from : ℕ → ℕ → List ℕ → Option ℕ
numeral_from base n s = if all (is_digit_of base) s then Some (code_of (number_from base n s)) else None

module _ (base most : ℕ) (s : List ℕ) where
  pub none-there : length s < 1 → None ≡ numeral_of base most s
  unfolding numeral_of
  none-there h = rw (below 1 most (length s) h)

  pub too_many : most < length s → None ≡ numeral_of base most s
  unfolding numeral_of
  too_many h = rw (above 1 most (length s) h)

  pub all_left : 1 ≤ length s → length s ≤ most → numeral_from base 0 (drop 0 s) ≡ numeral_of base most s
  unfolding numeral_of
  all_left h k = rw (inside 1 most (length s) h k)

module _ (base n i x : ℕ) (s : List ℕ) (v : Option ℕ) (h : i < length s) (e : x ≡ digit_value (get_or s i 0)) (left : numeral_from base n (drop i s) ≡ v) where
  pub no_digit : base ≤ x → None ≡ v
  no_digit k = rw (next s i h, ← e, le-ltb x base k) at left

  pub next-digit : x < base → numeral_from base (n * base + x) (drop (i + 1) s) ≡ v
  next-digit k = rw e (rw (next s i h, lt-ltb (digit_value (get_or s i 0)) base (rw e at k)) at left)

pub no-digit-left : (base n i r : ℕ) (s : List ℕ) (v : Option ℕ) → length s ≤ i → r ≡ code_of n → numeral_from base n (drop i s) ≡ v → Some r ≡ v
no-digit-left base n i r s v h e left = rw e (rw (drop_of_length-le s h) at left)

-- up to seven digits, of a base up to 16, say less than 2 ^ 32
module _ (base most n i x : ℕ) (s : List ℕ) (bound : (base ≤ 16) × (most ≤ 7)) (l : length s ≤ most) (h : i < length s) (small : n < 16 ^ i) (k : x < base) where
  pub grows : n * base + x < 16 ^ (i + 1)
  grows =
      let a : n * base + base ≤ 16 ^ i * 16 = le_trans (le_of_eq (sym (suc-mul n base))) (mul-le-mul small bound.0) in
      rw (add-one, pow-suc) (omega arith)

  most-fits : 16 ^ (i + 1) ≤ 16 ^ 7
  most-fits = let e : i + 1 ≤ 7 = omega arith in pow-le-pow_right (lit< tt) e

  pub product-fits : Fits w32 (n * base)
  product-fits = record { fits = omega (arith, grows, most-fits) }

  pub sum_fits : Fits w32 (n * base + x)
  sum_fits = record { fits = omega (arith, grows, most-fits) }
