-- What is read off a first byte, each rule one test computed over the bytes, and what any other byte leaves due. Assumes nothing.
use Rattle.std.specs.Prelude.{if◌then◌else◌}
use Rattle.std.proofs.Common.{◌≡◌, refl, sym, ap, ◌∙◌, Bool, true, false, ◌&&◌, ◌||◌, [], ◌∷◌, ℕ, suc, suc-le-suc, ◌+◌, ◌-◌, ◌≤◌, ◌<◌, arith, lt_of_not-le, lt-ltb, le-ltb, ne_eqb, le-leb, T, eqb, leb, ltb, eqb→eq, get_or}
use Rattle.std.proofs.Math.Bool.{and-false}
use Rattle.std.proofs.Math.Decide.{dec_le}
use borrow.Author.Tests.{lt-leb}
use lib.Count.{count_leading_zeros}
use mir.Syntax.{w8}
use mir.Val.{Fits}
use Rattle.lent.specs.Bytes.{between}
use Rattle.utf8.specs.declared.Due.{Due}
use Rattle.utf8.specs.declared.Due.TheVariants.{First, More, Wrong}
use Rattle.utf8.specs.Table.{after_first, next, length_of}
use Rattle.utf8.specs.Wanted.{second_from, second_to}
use Rattle.lent.proofs.Computed.{and_left, and_right, all_below, computed, ranged, bounded}

-- ---- a character's length by the count of its first byte's leading ones

-- 0, 2, 3 or 4 ones
by_ones : ℕ → ℕ
by_ones n = if eqb n 0 then 1 else (if eqb n 1 then 0 else (if ltb 4 n then 0 else n))

-- the tie: the leading zeros of the byte's complement are the ones of the byte
counted : (b : ℕ) → b < 256 → by_ones (count_leading_zeros 8 (255 - b)) ≡ length_of b
unfolding by_ones length_of count_leading_zeros
counted b h = eqb→eq _ _ (computed (λ b. eqb (by_ones (count_leading_zeros 8 (255 - b))) (length_of b)) 256 tt b h)

module _ (b : ℕ) (h : b < 256) where
  pub ones_none : count_leading_zeros 8 (255 - b) ≡ 0 → 1 ≡ length_of b
  unfolding by_ones
  ones_none e = ap by_ones (sym e) ∙ counted b h

  pub ones-one : count_leading_zeros 8 (255 - b) ≡ 1 → 0 ≡ length_of b
  unfolding by_ones
  ones-one e = ap by_ones (sym e) ∙ counted b h

many : (n : ℕ) → 4 < n → 0 ≡ by_ones n
unfolding by_ones
many n h =
    let p : eqb n 0 ≡ false = ne_eqb n 0 (omega arith) in
    let q : eqb n 1 ≡ false = ne_eqb n 1 (omega arith) in
    rw (p, q, lt-ltb 4 n h)

few : (n : ℕ) → (n ≡ 0 → ⊥) → (n ≡ 1 → ⊥) → n ≤ 4 → n ≡ by_ones n
unfolding by_ones
few n p q h = rw (ne_eqb n 0 p, ne_eqb n 1 q, le-ltb 4 n h)

module _ (b : ℕ) (h : b < 256) where
  pub ones-many : 4 < count_leading_zeros 8 (255 - b) → 0 ≡ length_of b
  ones-many k = many (count_leading_zeros 8 (255 - b)) k ∙ counted b h

  pub ones-few : (count_leading_zeros 8 (255 - b) ≡ 0 → ⊥) → (count_leading_zeros 8 (255 - b) ≡ 1 → ⊥) → count_leading_zeros 8 (255 - b) ≤ 4 → count_leading_zeros 8 (255 - b) ≡ length_of b
  ones-few p q k = few (count_leading_zeros 8 (255 - b)) p q k ∙ counted b h

-- ---- what a first byte leaves due

unfoldable pub same_due : Due → Due → Bool
same_due First First = true
same_due First (More left lo hi) = false
same_due First Wrong = false
same_due (More left lo hi) First = false
same_due (More left lo hi) (More left' lo' hi') = (eqb left left' && eqb lo lo') && eqb hi hi'
same_due (More left lo hi) Wrong = false
same_due Wrong First = false
same_due Wrong (More left lo hi) = false
same_due Wrong Wrong = true

pub same-due : (d e : Due) → T (same_due d e) → d ≡ e
unfolding same_due
same-due First First t = refl
same-due First (More left lo hi) t = absurd t
same-due First Wrong t = absurd t
same-due (More left lo hi) First t = absurd t
same-due (More left lo hi) (More left' lo' hi') t =
    let u = and_left (eqb left left' && eqb lo lo') (eqb hi hi') t in
    let p = eqb→eq left left' (and_left (eqb left left') (eqb lo lo') u) in
    let q = eqb→eq lo lo' (and_right (eqb left left') (eqb lo lo') u) in
    let r = eqb→eq hi hi' (and_right (eqb left left' && eqb lo lo') (eqb hi hi') t) in
    cc
same-due (More left lo hi) Wrong t = absurd t
same-due Wrong First t = absurd t
same-due Wrong (More left lo hi) t = absurd t
same-due Wrong Wrong t = refl

-- bytes from lo to hi leave due what f says
due : (lo hi : ℕ) (f : ℕ → Due) → T (all_below (suc hi) (λ b. ltb b lo || same_due (f b) (after_first b))) → (b : ℕ) → lo ≤ b → b ≤ hi → f b ≡ after_first b
due lo hi f t b h k = same-due (f b) (after_first b) (ranged lo hi (λ b. same_due (f b) (after_first b)) t b h k)

above : (lo hi b : ℕ) → hi < b → between lo hi b ≡ false
above lo hi b h = rw (lt-leb b hi h) (and-false (leb lo b))

module _ (b : ℕ) where
  pub ascii-due : b < 0x80 → First ≡ after_first b
  unfolding after_first same_due
  ascii-due h = due 0 0x7F (λ b. First) tt b (omega arith) (omega arith)

  pub low-wrong : 0x80 ≤ b → b < 0xC2 → Wrong ≡ after_first b
  unfolding after_first same_due
  low-wrong h k = due 0x80 0xC1 (λ b. Wrong) tt b h (omega arith)

  pub high-wrong : 0xF4 < b → Wrong ≡ after_first b
  unfolding after_first
  high-wrong h =
      rw (above 0 0x7F b (omega arith), above 0xC2 0xDF b (omega arith), ne_eqb b 0xE0 (omega arith), above 0xE1 0xEC b (omega arith), ne_eqb b 0xED (omega arith))
      (rw (above 0xEE 0xEF b (omega arith), ne_eqb b 0xF0 (omega arith), above 0xF1 0xF3 b (omega arith), ne_eqb b 0xF4 (omega arith)))

-- a byte that more follow
module _ (b n : ℕ) (e : n ≡ length_of b) where
  pub some : 0xC0 ≤ b → b ≤ 0xF7 → 1 ≤ n
  unfolding length_of
  some h k = rw e (bounded 0xC0 0xF7 (λ b. 1) length_of tt b h k)

  pub few-more : b < 256 → Fits w8 (n - 1)
  unfolding length_of
  few-more h = let l = bounded 0 0xFF length_of (λ b. 4) tt b (omega arith) (omega arith) in record { fits = omega arith }

  pub more-due : 0xC2 ≤ b → b ≤ 0xF4 → (lo hi : ℕ) → lo ≡ second_from b → hi ≡ second_to b → More (n - 1) lo hi ≡ after_first b
  unfolding after_first length_of same_due
  more-due h k lo hi p q =
      rw (e, p, q) (due 0xC2 0xF4 (λ b. More (length_of b - 1) (second_from b) (second_to b)) tt b h k)

-- ---- what every first byte leaves due

-- the next byte due goes on a character
abbrev pub is_sound : Due → Bool
is_sound First = true
is_sound (More left lo hi) = leb 0x80 lo && leb hi 0xBF
is_sound Wrong = true

-- the bits that a first byte begins with, by how many bytes follow it (RFC 3629, section 3)
abbrev pub lead : ℕ → ℕ
lead n = get_or (0 ∷ 0xC0 ∷ 0xE0 ∷ 0xF0 ∷ []) n 0

-- a byte that begins with the bits of what it leaves due
abbrev pub is_led : ℕ → Due → Bool
is_led b First = ltb b 0x80
is_led b (More left lo hi) = between 1 3 left && between (lead left) (lead left + 31) b
is_led b Wrong = true

module _ (f : ℕ → Due → Bool) (wrong : (b : ℕ) → T (f b Wrong)) where
  every_first : T (all_below 0xF5 (λ b. f b (after_first b))) → (b : ℕ) → T (f b (after_first b))
  every_first t b = elim (dec_le b 0xF4) [
    | yes h ↦ computed (λ b. f b (after_first b)) 0xF5 t b (suc-le-suc h)
    | no h ↦ rw (← high-wrong b (lt_of_not-le h)) (wrong b)
  ]

pub sound-first : (b : ℕ) → T (is_sound (after_first b))
unfolding after_first
sound-first b = every_first (λ b d. is_sound d) (λ b. tt) tt b

pub led-first : (b : ℕ) → T (is_led b (after_first b))
unfolding after_first
led-first b = every_first is_led (λ b. tt) tt b

-- ---- what is due behind a byte

module _ (d : Due) (b left lo hi : ℕ) (e : d ≡ More left lo hi) where
  pub more-low : b < lo → Wrong ≡ next d b
  more-low h = rw (e, lt-leb lo b h)

  pub more-high : hi < b → Wrong ≡ next d b
  more-high h = rw (e, lt-leb b hi h, and-false)

  pub more-last : lo ≤ b → b ≤ hi → left < 2 → First ≡ next d b
  more-last h k l = rw (e, le-leb lo b h, le-leb b hi k, lt-ltb left 2 l)

  pub more-on : lo ≤ b → b ≤ hi → 2 ≤ left → More (left - 1) 0x80 0xBF ≡ next d b
  more-on h k l = rw (e, le-leb lo b h, le-leb b hi k, le-ltb left 2 l)

pub first-due : (d r : Due) (b : ℕ) → d ≡ First → r ≡ after_first b → r ≡ next d b
first-due d r b e p = rw e p
