-- The scheme of a percent-encoded URL: that of the given one, or both have a byte that no scheme has. Assumes nothing.
use Rattle.std.proofs.Common.{if◌then◌else◌, ◌≡◌, refl, sym, ap, ◌∙◌, Bool, true, false, not, List, [], ◌∷◌, ◌++◌, Option, Some, None, ℕ, ◌+◌, ◌/◌, ◌%◌, ◌≤◌, arith, ne_eqb, lt-ltb, le-ltb, eqb}
use mathlib.Core.Bool.{or-true}
use native.Mathlib.Decide.{dec_lt, ℕ_discrete}
use Rattle.lent.specs.Bytes.{any}
use Rattle.url_byte.specs.Byte.{is_kept, stays, hex_upper, percent, url_byte}
use Rattle.url_byte.proofs.Laws.{unlike}
use Rattle.normalize_uri.specs.Url.{normalize_of}
use Rattle.sanitize_uri.proofs.Before.{led, is_bar, scheme_of}

abbrev pub is_odd : ℕ → Bool
is_odd b = not (is_kept b)

-- the same, or both with a byte that no scheme has
pub data Alike : Option (List ℕ) → Option (List ℕ) → Type 0 where
  neither : Alike None None
  equal : {s : List ℕ} → Alike (Some s) (Some s)
  strange : {s t : List ℕ} → any is_odd s ≡ true → any is_odd t ≡ true → Alike (Some s) (Some t)

odd-first : (b : ℕ) (s : List ℕ) → is_kept b ≡ false → any is_odd (b ∷ s) ≡ true
odd-first b s p = rw p

behind : (b : ℕ) (s : List ℕ) → any is_odd s ≡ true → any is_odd (b ∷ s) ≡ true
behind b s p = rw (p, or-true)

alike-led : (b : ℕ) {x y : Option (List ℕ)} → Alike x y → Alike (led b x) (led b y)
alike-led b neither = neither
alike-led b equal = equal
alike-led b (strange {s} {t} p q) = strange (behind b s p) (behind b t q)

plain : (b : ℕ) (l : List ℕ) → eqb b 58 ≡ false → is_bar b ≡ false → scheme_of (b ∷ l) ≡ led b (scheme_of l)
unfolding scheme_of
plain b l p q = rw (p, q)

-- a digit is no colon, and none of the three
digit-plain : (n : ℕ) (l : List ℕ) → scheme_of (hex_upper n ∷ l) ≡ led (hex_upper n) (scheme_of l)
unfolding hex_upper
digit-plain n l = elim (dec_lt n 10) [
  | yes h ↦ rw (lt-ltb n 10 h) (by (48 + n) (omega arith) (omega arith) (omega arith) (omega arith))
  | no h ↦ (let k : 10 ≤ n = omega arith in rw (le-ltb n 10 k) (by (55 + n) (omega arith) (omega arith) (omega arith) (omega arith)))
]
  where
    by : (b : ℕ) → (b ≡ 58 → ⊥) → (b ≡ 63 → ⊥) → (b ≡ 35 → ⊥) → (b ≡ 47 → ⊥) → scheme_of (b ∷ l) ≡ led b (scheme_of l)
    by b c q h s = plain b l (ne_eqb b 58 c) (rw (ne_eqb b 63 q, ne_eqb b 35 h, ne_eqb b 47 s))

encoded-led : (b : ℕ) (l : List ℕ) → scheme_of (percent b ++ l) ≡ led 37 (led (hex_upper (b / 16)) (led (hex_upper (b % 16)) (scheme_of l)))
unfolding percent
encoded-led b l =
    let h = hex_upper (b / 16) in
    let k = hex_upper (b % 16) in
    plain 37 (h ∷ k ∷ l) refl refl ∙ ap (led 37) (digit-plain (b / 16) (k ∷ l) ∙ ap (led h) (digit-plain (b % 16) l))

strangers : (b : ℕ) {x y : Option (List ℕ)} (h k : ℕ) → is_kept b ≡ false → Alike x y → Alike (led b x) (led 37 (led h (led k y)))
strangers b h k p neither = neither
strangers b h k p (equal {s}) = strange (odd-first b s p) (odd-first 37 (h ∷ k ∷ s) refl)
strangers b h k p (strange {s} {t} q r) = strange (odd-first b s p) (odd-first 37 (h ∷ k ∷ t) refl)

-- a byte that does not stay is not kept
not-kept : (b : ℕ) (l : List ℕ) → stays (b ∷ l) ≡ false → is_kept b ≡ false
unfolding stays
not-kept b l p = elim (ℕ_discrete b 37) [
  | yes e ↦ rw e
  | no n ↦ rw (ne_eqb b 37 n) at p
]

-- one that is, is no colon and none of the three
pub kept-bar : (b k : ℕ) → is_kept b ≡ false → is_kept k ≡ true → eqb b k ≡ false
kept-bar b k p q = ne_eqb b k (λ e. unlike k b q p (sym e))

odd-plain : (b : ℕ) (l : List ℕ) → is_kept b ≡ false → scheme_of (b ∷ l) ≡ led b (scheme_of l)
odd-plain b l p = plain b l (kept-bar b 58 p refl) (rw (kept-bar b 63 p refl, kept-bar b 35 p refl, kept-bar b 47 p refl))

kept-led : (b : ℕ) {x y : Option (List ℕ)} (c r : Bool) → Alike x y → Alike (if c then Some [] else (if r then None else led b x)) (if c then Some [] else (if r then None else led b y))
kept-led b true r h = equal
kept-led b false true h = neither
kept-led b false false h = alike-led b h

pub alike : (l : List ℕ) → Alike (scheme_of l) (scheme_of (normalize_of l))
unfolding scheme_of normalize_of url_byte
alike [] = neither
alike (b ∷ l) = on (stays (b ∷ l)) refl (alike l)
  where
    on : (x : Bool) → stays (b ∷ l) ≡ x → Alike (scheme_of l) (scheme_of (normalize_of l)) → Alike (scheme_of (b ∷ l)) (scheme_of (url_byte x b ++ normalize_of l))
    on true p h = kept-led b (eqb b 58) (is_bar b) h
    on false p h =
        let k = not-kept b l p in
        rw (odd-plain b l k, encoded-led b (normalize_of l)) (strangers b (hex_upper (b / 16)) (hex_upper (b % 16)) k h)
