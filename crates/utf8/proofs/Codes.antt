-- The codes of characters, by how many tails follow the first byte: numbers alone. Assumes nothing.
use Rattle.std.proofs.Common.{◌≡◌, refl, ◌⊎◌, inl, inr, ⊎_elim, Bool, true, false, ◌&&◌, ◌||◌, List, [], ◌∷◌, ℕ, zero, suc, ◌+◌, ◌*◌, ◌/◌, ◌≤◌, ◌<◌, lt_of_not-le, arith, lt-ltb, le-ltb, le-leb, ltb-true, T, leb, ltb, leb→le, ltb→lt, get_or}
use Rattle.std.proofs.Math.Decide.{dec_le}
use Rattle.lent.specs.Bytes.{between}
use Rattle.utf8.specs.Utf8.{is_scalar, tail, char_of}
use Rattle.lent.proofs.Computed.{and_left, and_right, within, from, to}
use Rattle.utf8.proofs.Table.{lead}

-- the least code with n tails: the table of section 3
abbrev pub least : ℕ → ℕ
least n = get_or (0 ∷ 0x80 ∷ 0x800 ∷ 0x10000 ∷ 0x110000 ∷ []) n 0

-- a code without its last n tails, and these
abbrev pub above : ℕ → ℕ → ℕ
above zero c = c
above (suc n) c = above n c / 64

abbrev pub tails : ℕ → ℕ → List ℕ
tails zero c = []
tails (suc n) c = tail (above n c) ∷ tails n c

-- the bytes of a code
pub spelled : (n c : ℕ) → n ≤ 3 → least n ≤ c → c < least (suc n) → char_of c ≡ (lead n + above n c) ∷ tails n c
unfolding char_of
spelled zero c l h k = let e : 0 + c ≡ c = omega arith in rw (lt-ltb c 0x80 k, e)
spelled (suc zero) c l h k = rw (le-ltb c 0x80 h, lt-ltb c 0x800 k)
spelled (suc (suc zero)) c l h k =
    let e : c / 4096 ≡ c / 64 / 64 = omega arith in
    rw (le-ltb c 0x80 (omega arith), le-ltb c 0x800 h, lt-ltb c 0x10000 k, e)
spelled (suc (suc (suc zero))) c l h k =
    let e : c / 262144 ≡ c / 64 / 64 / 64 = omega arith in
    let f : c / 4096 ≡ c / 64 / 64 = omega arith in
    rw (le-ltb c 0x80 (omega arith), le-ltb c 0x800 (omega arith), le-ltb c 0x10000 h, e, f)
spelled (suc (suc (suc (suc n)))) c l h k = absurd (omega arith)

-- a code with n tails of zeros behind it
abbrev pub shifted : ℕ → ℕ → ℕ
shifted zero h = h
shifted (suc n) h = shifted n (h * 64)

pub above-shifted : (n h : ℕ) → above n (shifted n h) ≡ h
above-shifted zero h = refl
above-shifted (suc n) h = rw (above-shifted n (h * 64)) (omega arith)

pub low_scalar : (c : ℕ) → c < 0xD800 → T (is_scalar c)
low_scalar c h = rw (lt-ltb c 0xD800 h) tt

high_scalar : (c : ℕ) → 0xE000 ≤ c → c ≤ 0x10FFFF → T (is_scalar c)
high_scalar c h k = rw (le-ltb c 0xD800 (omega arith)) (within 0xE000 0x10FFFF c h k)

scalar : (c : ℕ) → T (is_scalar c) → (c < 0xD800) ⊎ ((0xE000 ≤ c) × (c ≤ 0x10FFFF))
scalar c t = go (ltb c 0xD800) refl t
  where
    go : (u : Bool) → ltb c 0xD800 ≡ u → T (u || between 0xE000 0x10FFFF c) → (c < 0xD800) ⊎ ((0xE000 ≤ c) × (c ≤ 0x10FFFF))
    go true e t = inl (ltb-true c 0xD800 e)
    go false e t = inr (from 0xE000 0x10FFFF c t, to 0xE000 0x10FFFF c t)

-- c is the code of a character with n tails
abbrev pub has_tails : ℕ → ℕ → Bool
has_tails n c = leb (least n) c && (ltb c (least (suc n)) && is_scalar c)

abbrev pub Tailed : ℕ → ℕ → Type 0
Tailed n c = T (has_tails n c)

module _ (n c : ℕ) where
  pub tailed : least n ≤ c → c < least (suc n) → T (is_scalar c) → Tailed n c
  tailed h k t = rw (le-leb (least n) c h, lt-ltb c (least (suc n)) k) t

  module _ (t : Tailed n c) where
    pub low : least n ≤ c
    low = leb→le (least n) c (and_left (leb (least n) c) (ltb c (least (suc n)) && is_scalar c) t)

    few : T (ltb c (least (suc n)) && is_scalar c)
    few = and_right (leb (least n) c) (ltb c (least (suc n)) && is_scalar c) t

    pub high : c < least (suc n)
    high = ltb→lt c (least (suc n)) (and_left (ltb c (least (suc n))) (is_scalar c) few)

    pub fair : T (is_scalar c)
    fair = and_right (ltb c (least (suc n))) (is_scalar c) few

-- each has some
pub counted : (c : ℕ) → T (is_scalar c) → (n : ℕ) × (n ≤ 3) × Tailed n c
counted c t = elim (dec_le 0x80 c) [
  | no h ↦ (0, omega arith, tailed 0 c (omega arith) (lt_of_not-le h) t)
  | yes h ↦ elim (dec_le 0x800 c) [
    | no k ↦ (1, omega arith, tailed 1 c h (lt_of_not-le k) t)
    | yes k ↦ elim (dec_le 0x10000 c) [
      | no l ↦ (2, omega arith, tailed 2 c k (lt_of_not-le l) t)
      | yes l ↦ (3, omega arith, tailed 3 c l (⊎_elim (λ x. omega arith) (λ x. omega arith) (scalar c t)) t)
    ]
  ]
]

-- codes that differ in their last n tails alone
pub same_head : (n x y : ℕ) → n < 3 → above n x ≡ above n y → Tailed (suc n) x → Tailed (suc n) y
same_head zero x y l e t = rw (← e) t
same_head (suc zero) x y l e t =
    let h = low 2 x t in
    let k = high 2 x t in
    tailed 2 y (omega arith) (omega arith) (⊎_elim (λ s. low_scalar y (omega arith)) (λ s. high_scalar y (omega arith) (omega arith)) (scalar x (fair 2 x t)))
same_head (suc (suc zero)) x y l e t =
    let h = low 3 x t in
    let k = high 3 x t in
    tailed 3 y (omega arith) (omega arith) (high_scalar y (omega arith) (omega arith))
same_head (suc (suc (suc n))) x y l e t = absurd (omega arith)

-- and their heads are few
pub head-low : (n c : ℕ) → n < 3 → Tailed (suc n) c → above n c < 0x800
head-low zero c l t = high 1 c t
head-low (suc zero) c l t = omega (arith, high 2 c t)
head-low (suc (suc zero)) c l t = omega (arith, high 3 c t)
head-low (suc (suc (suc n))) c l t = absurd (omega arith)
