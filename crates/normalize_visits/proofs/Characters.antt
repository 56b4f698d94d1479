-- The visits of a URL that is UTF-8, character by character: with `none` these equations leave no other number. Assumes nothing.
use Rattle.std.proofs.Common.{◌≡◌, refl, ap, true, false, List, ◌∷◌, ◌++◌, ℕ, zero, suc, ◌+◌, ◌-◌, ◌/◌, ◌≤◌, ◌<◌, arith, le-leb, ne_eqb, T}
use borrow.Author.Tests.{lt-leb}
use Rattle.lent.specs.Bytes.{bytes, is_alnum}
use Rattle.utf8.specs.Utf8.{is_scalar, char_of, length_of}
use Rattle.utf8.proofs.Table.{lead}
use Rattle.utf8.proofs.Codes.{least, above, tails, spelled, counted, low, high}
use Rattle.url_byte.specs.Byte.{two_alnum}
use Rattle.normalize_visits.specs.Visits.{behind_of, visits_from, visits_of}

-- ---- a % with a triple, and one without

module _ (t : List ℕ) where
  pub triple : (a b : ℕ) → is_alnum a ≡ true → is_alnum b ≡ true → visits_of (37 ∷ a ∷ b ∷ t) ≡ suc (visits_of t)
  unfolding visits_of visits_from behind_of two_alnum
  triple a b p q = rw (p, q)

  pub percent : two_alnum t ≡ false → visits_of (37 ∷ t) ≡ suc (visits_of t)
  unfolding visits_of visits_from behind_of length_of
  percent p = rw p

-- ---- any other character

-- the first byte says how many tails follow
module _ (b : ℕ) where
  one : b ≤ 0x7F → length_of b ≡ 1
  unfolding length_of
  one h = rw (le-leb 0 b (omega arith), le-leb b 0x7F h)

  two : 0xC0 ≤ b → b ≤ 0xDF → length_of b ≡ 2
  unfolding length_of
  two h k = rw (le-leb 0 b (omega arith), lt-leb b 0x7F (omega arith), le-leb 0xC0 b h, le-leb b 0xDF k)

  three : 0xE0 ≤ b → b ≤ 0xEF → length_of b ≡ 3
  unfolding length_of
  three h k = rw (le-leb 0 b (omega arith), lt-leb b 0x7F (omega arith), lt-leb b 0xDF (omega arith), le-leb 0xC0 b (omega arith), le-leb 0xE0 b h, le-leb b 0xEF k)

  four : 0xF0 ≤ b → b ≤ 0xF7 → length_of b ≡ 4
  unfolding length_of
  four h k =
      rw (le-leb 0 b (omega arith), lt-leb b 0x7F (omega arith), lt-leb b 0xDF (omega arith), lt-leb b 0xEF (omega arith), le-leb 0xC0 b (omega arith), le-leb 0xE0 b (omega arith), le-leb 0xF0 b h, le-leb b 0xF7 k)

width : (n c : ℕ) → n ≤ 3 → least n ≤ c → c < least (suc n) → length_of (lead n + above n c) ≡ suc n
width zero c l h k = one (lead 0 + c) (omega arith)
width (suc zero) c l h k = two (lead 1 + c / 64) (omega arith) (omega arith)
width (suc (suc zero)) c l h k = three (lead 2 + c / 64 / 64) (omega arith) (omega arith)
width (suc (suc (suc zero))) c l h k = four (lead 3 + c / 64 / 64 / 64) (omega arith) (omega arith)
width (suc (suc (suc (suc n)))) c l h k = absurd (omega arith)

unlike : (n c : ℕ) → n ≤ 3 → (c ≡ 37 → ⊥) → lead n + above n c ≡ 37 → ⊥
unlike zero c l p q = p (omega arith)
unlike (suc zero) c l p q = omega arith
unlike (suc (suc zero)) c l p q = omega arith
unlike (suc (suc (suc zero))) c l p q = omega arith
unlike (suc (suc (suc (suc n)))) c l p q = omega arith

tails-passed : (n c : ℕ) (t : List ℕ) → visits_from n (tails n c ++ t) ≡ visits_of t
unfolding visits_from visits_of
tails-passed zero c t = refl
tails-passed (suc n) c t = tails-passed n c t

spelled-once : (n c : ℕ) (t : List ℕ) → n ≤ 3 → least n ≤ c → c < least (suc n) → (c ≡ 37 → ⊥) → visits_of ((lead n + above n c) ∷ tails n c ++ t) ≡ suc (visits_of t)
unfolding visits_of visits_from behind_of
spelled-once n c t l h k p =
    let e : suc n - 1 ≡ n = omega arith in
    rw (ne_eqb (lead n + above n c) 37 (unlike n c l p), width n c l h k, e) (ap suc (tails-passed n c t))

pub character : (c : ℕ) (t : List ℕ) → T (is_scalar c) → (c ≡ 37 → ⊥) → visits_of (char_of c ++ t) ≡ suc (visits_of t)
character c t s p =
    let x = counted c s in
    let h = low x.0 c x.2 in
    let k = high x.0 c x.2 in
    rw (spelled x.0 c x.1 h k) (spelled-once x.0 c t x.1 h k p)

-- ---- for example

abbrev accented : List ℕ
accented = char_of 0xE9

examples : (visits_of accented ≡ 1) × (visits_of (bytes "%20") ≡ 1) × (visits_of (bytes "%%20") ≡ 2) × (visits_of (bytes "%2") ≡ 2) × (visits_of (bytes "%zz%z") ≡ 3)
unfolding visits_of visits_from behind_of two_alnum length_of char_of
examples = (refl, refl, refl, refl, refl)
