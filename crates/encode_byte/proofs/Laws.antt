-- What the code of `encode_byte` goes by, and the laws that callers cite. Assumes nothing.
use Rattle.std.proofs.Common.{if◌then◌else◌, ◌≡◌, refl, sym, ◌∙◌, Bool, true, false, ◌||◌, List, [], ◌∷◌, ℕ, min, arith, ne_eqb, eqb, w8, Fits}
use mathlib.Core.Bool.{or-false}
use Rattle.lent.specs.Bytes.{bytes, has_bit}
use Rattle.lent.proofs.Computed.{agree}
use Rattle.lent.proofs.Laws.{or_left, or_right}
use Rattle.utf8.specs.Utf8.{replacement}
use Rattle.encode_byte.specs.declared.Escaping.{Escaping}
use Rattle.encode_byte.specs.declared.Escaping.TheVariants.{Off, Html, HtmlAndApostrophes}
use Rattle.encode_byte.specs.Byte.{encode_byte}
use Rattle.encode_byte.specs.Private.{is_special, special_mask}

-- none of the six
pub kept : (on : Escaping) (b : ℕ) → (b ≡ 0 → ⊥) → (b ≡ 38 → ⊥) → (b ≡ 60 → ⊥) → (b ≡ 62 → ⊥) → (b ≡ 34 → ⊥) → (b ≡ 39 → ⊥) → encode_byte on b ≡ b ∷ []
unfolding encode_byte
kept Off b z a l g q t = rw (ne_eqb b 0 z)
kept Html b z a l g q t = rw (ne_eqb b 0 z, ne_eqb b 38 a, ne_eqb b 60 l, ne_eqb b 62 g, ne_eqb b 34 q)
kept HtmlAndApostrophes b z a l g q t = rw (ne_eqb b 0 z, ne_eqb b 38 a, ne_eqb b 60 l, ne_eqb b 62 g, ne_eqb b 34 q, ne_eqb b 39 t)

-- encoding off: no NUL
pub off : (b : ℕ) → (b ≡ 0 → ⊥) → encode_byte Off b ≡ b ∷ []
unfolding encode_byte
off b z = rw (ne_eqb b 0 z)

-- the tests, as Bools
stays : (z q a l g : Bool) (r x : List ℕ) → (z || (q || a || l || g)) ≡ false
    → (if z then r else (if a then bytes "&amp;" else (if l then bytes "&lt;" else (if g then bytes "&gt;" else (if q then bytes "&quot;" else x))))) ≡ x
stays z q a l g r x p =
    let four = or_right z (q || a || l || g) p in
    let three = or_left (q || a || l) g four in
    let two = or_left (q || a) l three in
    rw (or_left z (q || a || l || g) p, or_right q a two, or_right (q || a) l three, or_right (q || a || l) g four, or_left q a two)

module _ (b : ℕ) where
  abbrev html : Bool
  html = eqb b 0 || (eqb b 34 || eqb b 38 || eqb b 60 || eqb b 62)

  plain-html : html ≡ false → encode_byte Html b ≡ b ∷ []
  unfolding encode_byte
  plain-html p = stays (eqb b 0) (eqb b 34) (eqb b 38) (eqb b 60) (eqb b 62) replacement (b ∷ []) p

  plain-apostrophe : html ≡ false → eqb b 39 ≡ false → encode_byte HtmlAndApostrophes b ≡ b ∷ []
  unfolding encode_byte
  plain-apostrophe p q = rw q (stays (eqb b 0) (eqb b 34) (eqb b 38) (eqb b 60) (eqb b 62) replacement (b ∷ []) p)

pub encode-plain : (on : Escaping) (b : ℕ) → is_special on b ≡ false → encode_byte on b ≡ b ∷ []
unfolding encode_byte
encode-plain Off b p = rw (or_left (eqb b 0) false (or_left (eqb b 0 || false) false p))
encode-plain Html b p = plain-html b (or_left (html b) false p)
encode-plain HtmlAndApostrophes b p = plain-apostrophe b (or_left (html b) (eqb b 39) p) (or_right (html b) (eqb b 39) p)

-- with HTML one of five, so that the apostrophe does not matter
special-html : (z q a l g : Bool) (r x y : List ℕ) → (z || (q || a || l || g)) ≡ true
    → (if z then r else (if a then bytes "&amp;" else (if l then bytes "&lt;" else (if g then bytes "&gt;" else (if q then bytes "&quot;" else x)))))
    ≡ (if z then r else (if a then bytes "&amp;" else (if l then bytes "&lt;" else (if g then bytes "&gt;" else (if q then bytes "&quot;" else y)))))
special-html true q a l g r x y p = refl
special-html false q true l g r x y p = refl
special-html false q false true g r x y p = refl
special-html false q false false true r x y p = refl
special-html false true false false false r x y p = refl
special-html false false false false false r x y p = let n : ◌≡◌ {A = ℕ} 0 1 = cc in absurd (omega arith)

encode-special : (on : Escaping) (b : ℕ) → is_special on b ≡ true → encode_byte on b ≡ encode_byte HtmlAndApostrophes b
unfolding encode_byte
encode-special HtmlAndApostrophes b p = refl
encode-special Html b p = special-html (eqb b 0) (eqb b 34) (eqb b 38) (eqb b 60) (eqb b 62) replacement (b ∷ []) (if eqb b 39 then bytes "&#39;" else b ∷ []) (sym (or-false (html b)) ∙ p)
encode-special Off b p = rw (sym (or-false (eqb b 0)) ∙ sym (or-false (eqb b 0 || false)) ∙ p)

-- the masks, by a test of all bytes
pub by_mask : (on : Escaping) (b m k : ℕ) (x : Bool) → Fits w8 b → k ≡ special_mask on → m ≡ min b 63 → x ≡ has_bit k m → x ≡ is_special on b
by_mask on b m k x f p q r = r ∙ rw (p, q) (tested on)
  where
    tested : (on : Escaping) → has_bit (special_mask on) (min b 63) ≡ is_special on b
    tested Off = agree (λ c. has_bit 1 (min c 63)) (is_special Off) 256 tt b f.fits
    tested Html = agree (λ c. has_bit 0x5000004400000001 (min c 63)) (is_special Html) 256 tt b f.fits
    tested HtmlAndApostrophes = agree (λ c. has_bit 0x500000c400000001 (min c 63)) (is_special HtmlAndApostrophes) 256 tt b f.fits

module _ (on : Escaping) (b : ℕ) (x : Bool) (p : x ≡ is_special on b) where
  pub plain : x ≡ false → encode_byte on b ≡ b ∷ []
  plain q = encode-plain on b (sym p ∙ q)

  pub special : x ≡ true → encode_byte on b ≡ encode_byte HtmlAndApostrophes b
  special q = encode-special on b (sym p ∙ q)
