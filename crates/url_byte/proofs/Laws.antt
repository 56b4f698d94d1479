-- What the code of `url_byte` goes by. Assumes nothing.
use Rattle.std.proofs.Common.{◌≡◌, refl, sym, ap, ◌∙◌, Bool, true, false, not, ◌&&◌, ◌||◌, ◌⊎◌, inl, inr, List, [], ◌∷◌, append-nil, ℕ, ◌+◌, ◌-◌, ◌/◌, ◌%◌, ◌≤◌, ◌<◌, arith, leb-true, le-leb, lt-ltb, le-ltb, eqb-true, ne_eqb, eqb, leb, length, drop, get_or, set, length-drop, length-set, take, take_all, w8, Fits}
use native.Mathlib.Decide.{dec_lt, ℕ_discrete}
use borrow.Author.Tests.{lt-leb, eqb-false, not-true, not-false}
use Rattle.lent.specs.Bytes.{has_bit, is_alnum, between}
use Rattle.lent.specs.Fill.{Filled}
use Rattle.lent.proofs.Computed.{agree}
use Rattle.lent.proofs.Laws.{next, and_left, and_right, or_left, or_right}
use Rattle.encode_byte.specs.declared.Escaping.{Escaping}
use Rattle.encode_byte.specs.Byte.{encode_byte}
use Rattle.encode_byte.proofs.Laws.{kept}
use Rattle.encode.specs.Encode.{encode_of}
use Rattle.url_byte.specs.Byte.{is_kept, two_alnum, stays, hex_upper, percent, url_byte}
use Rattle.url_byte.specs.Private.{byte_of, kept_mask}

-- ---- which bytes stay

pub two-short : (s : List ℕ) → length s < 2 → false ≡ two_alnum s
unfolding two_alnum
two-short [] h = refl
two-short (a ∷ []) h = refl
two-short (a ∷ b ∷ s) h = absurd (omega arith)

pub two-there : (s : List ℕ) (x y : Bool) → 2 ≤ length s → x ≡ is_alnum (get_or s 0 0) → y ≡ is_alnum (get_or s 1 0) → (x && y) ≡ two_alnum s
unfolding two_alnum
two-there [] x y h p q = absurd (omega arith)
two-there (a ∷ []) x y h p q = absurd (omega arith)
two-there (a ∷ b ∷ s) x y h p q = rw (p, q)

module _ (l : List ℕ) (i : ℕ) (x : Bool) (h : i < length l) where
  pub stays-percent : get_or l i 0 ≡ 37 → x ≡ two_alnum (take (length l - (i + 1)) (drop (i + 1) l)) → x ≡ stays (drop i l)
  unfolding stays
  stays-percent p q =
      let e : take (length l - (i + 1)) (drop (i + 1) l) ≡ drop (i + 1) l = take_all (length l - (i + 1)) (drop (i + 1) l) (rw length-drop (omega arith)) in
      rw (next l i h, p) (rw e at q)

  pub stays-other : (get_or l i 0 ≡ 37 → ⊥) → x ≡ is_kept (get_or l i 0) → x ≡ stays (drop i l)
  unfolding stays
  stays-other p q = rw (next l i h, ne_eqb (get_or l i 0) 37 p) q

-- ---- one byte

module _ (n : ℕ) where
  pub hex-low : n < 10 → 48 + n ≡ hex_upper n
  unfolding hex_upper
  hex-low h = rw (lt-ltb n 10 h)

  pub hex-high : 10 ≤ n → 55 + n ≡ hex_upper n
  unfolding hex_upper
  hex-high h = rw (le-ltb n 10 h)

digit : (on : Escaping) (n : ℕ) → n < 16 → encode_byte on (hex_upper n) ≡ hex_upper n ∷ []
digit on n h =
    elim (dec_lt n 10) [
      | yes k ↦ rw (← hex-low n k) (kept on (48 + n) (omega arith) (omega arith) (omega arith) (omega arith) (omega arith) (omega arith))
      | no k ↦
          let k' : 10 ≤ n = omega arith in
          rw (← hex-high n k') (kept on (55 + n) (omega arith) (omega arith) (omega arith) (omega arith) (omega arith) (omega arith))
    ]

encode-percent : (on : Escaping) (b : ℕ) → b < 256 → encode_of on (percent b) ≡ percent b
unfolding percent encode_of
encode-percent on b h =
    rw (digit on (b / 16) (omega arith), digit on (b % 16) (omega arith), kept on 37 (omega arith) (omega arith) (omega arith) (omega arith) (omega arith) (omega arith))

pub unlike : (b k : ℕ) → is_kept b ≡ true → is_kept k ≡ false → b ≡ k → ⊥
unlike b k p q e = let z : ◌≡◌ {A = ℕ} 0 1 = cc (ap is_kept e) in omega arith

-- a byte that stays is a %, or kept
stays-case : (b : ℕ) (bs : List ℕ) → stays (b ∷ bs) ≡ true → (b ≡ 37) ⊎ (is_kept b ≡ true)
unfolding stays
stays-case b bs p =
    elim (ℕ_discrete b 37) [
      | yes e ↦ inl e
      | no n ↦ inr (rw (ne_eqb b 37 n) at p)
    ]

-- one that stays, and is no & or ', HTML leaves alone
pub left_alone : (on : Escaping) (b : ℕ) → (b ≡ 37) ⊎ (is_kept b ≡ true) → (b ≡ 38 → ⊥) → (b ≡ 39 → ⊥) → encode_byte on b ≡ b ∷ []
left_alone on b (inl e) n t = kept on b (omega arith) (omega arith) (omega arith) (omega arith) (omega arith) (omega arith)
left_alone on b (inr k) n t = kept on b (unlike b 0 k refl) n (unlike b 60 k refl) (unlike b 62 k refl) (unlike b 34 k refl) t

module _ (on : Escaping) (l : List ℕ) (i : ℕ) (x : Bool) (h : i < length l) (p : x ≡ stays (drop i l)) where
  pub percent-byte : Fits w8 (get_or l i 0) → not x ≡ true → encode_of on (byte_of (drop i l)) ≡ percent (get_or l i 0)
  unfolding byte_of url_byte
  percent-byte f q =
      let k : stays (get_or l i 0 ∷ drop (i + 1) l) ≡ false = rw (next l i h) at (sym p ∙ not-true x q) in
      rw (next l i h, k) (encode-percent on (get_or l i 0) f.fits)

  module _ (q : not x ≡ false) where
    staying : stays (get_or l i 0 ∷ drop (i + 1) l) ≡ true
    staying = rw (next l i h) at (sym p ∙ not-false x q)

    pub quoted-byte : encode_of on (byte_of (drop i l)) ≡ encode_byte on (get_or l i 0)
    unfolding byte_of url_byte encode_of
    quoted-byte = rw (next l i h, staying) (append-nil (encode_byte on (get_or l i 0)))

    pub kept_byte : (eqb (get_or l i 0) 38 || eqb (get_or l i 0) 39) ≡ false → encode_of on (byte_of (drop i l)) ≡ get_or l i 0 ∷ []
    kept_byte n =
        let b = get_or l i 0 in
        let k = left_alone on b (stays-case b (drop (i + 1) l) staying) (eqb-false b 38 (or_left (eqb b 38) (eqb b 39) n)) (eqb-false b 39 (or_right (eqb b 38) (eqb b 39) n)) in
        quoted-byte ∙ k

-- a byte with a mark: &, ' or another
module _ (on : Escaping) (b : ℕ) where
  pub marked-quoted : (eqb b 38 || eqb b 39) ≡ true → encode_of on (url_byte (between 38 39 b) b) ≡ encode_byte on b
  unfolding url_byte encode_of
  marked-quoted p =
      elim (ℕ_discrete b 38) [
        | yes e ↦ rw e (append-nil (encode_byte on 38))
        | no n ↦ let e : b ≡ 39 = eqb-true b 39 (rw (ne_eqb b 38 n) at p) in rw e (append-nil (encode_byte on 39))
      ]

  pub marked_other : Fits w8 b → (eqb b 38 || eqb b 39) ≡ false → encode_of on (url_byte (between 38 39 b) b) ≡ percent b
  unfolding url_byte
  marked_other f p =
      let m = eqb-false b 38 (or_left (eqb b 38) (eqb b 39) p) in
      let n = eqb-false b 39 (or_right (eqb b 38) (eqb b 39) p) in
      elim (dec_lt b 38) [
        | yes h ↦ rw (lt-leb 38 b h) (encode-percent on b f.fits)
        | no h ↦
            let k : 39 < b = omega arith in
            let l : 38 ≤ b = omega arith in
            rw (le-leb 38 b l, lt-leb b 39 k) (encode-percent on b f.fits)
      ]

pub near : (b : ℕ) → between 38 39 b ≡ true → is_kept b ≡ true
near b p =
    let lo : 38 ≤ b = leb-true 38 b (and_left (leb 38 b) (leb b 39) p) in
    let hi : b ≤ 39 = leb-true b 39 (and_right (leb 38 b) (leb b 39) p) in
    elim (ℕ_discrete b 38) [
      | yes e ↦ rw e
      | no n ↦ let e : b ≡ 39 = omega arith in rw e
    ]

-- the masks, by a test of all bytes
pub by_mask : (b m : ℕ) (x : Bool) → Fits w8 b → m ≡ kept_mask b → x ≡ has_bit m (b % 64) → x ≡ is_kept b
unfolding kept_mask
by_mask b m x f p q =
    let k = agree (λ c. has_bit (kept_mask c) (c % 64)) is_kept 256 tt b f.fits in
    q ∙ rw p k
