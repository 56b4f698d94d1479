-- A URL is judged alike as it is given and percent-encoded, by schemes of kept bytes: RULES R11.5. Assumes nothing.
use Rattle.std.proofs.Common.{◌≡◌, refl, sym, ◌∙◌, Bool, true, false, ◌&&◌, true≢false, List, [], ◌∷◌, Option, ℕ, ◌≤◌, arith, le-leb, eqb}
use mathlib.Core.Bool.{or-true, and-false}
use native.Mathlib.Decide.{dec_lt}
use Rattle.lent.specs.Bytes.{bytes, all, any, same, mapped, lower, listed}
use Rattle.lent.proofs.Laws.{and_left, and_right}
use Rattle.url_byte.specs.Byte.{is_kept, stays, hex_upper, percent, url_byte}
use Rattle.normalize_uri.specs.Url.{normalize_of}
use Rattle.sanitize_uri.specs.Protocols.{colon_from, colon_of, link_schemes, image_schemes, is_allowed}
use Rattle.sanitize_uri.proofs.Schemes.{lower-below, lower-above}
use Rattle.sanitize_uri.proofs.Before.{judge, judged-by}
use Rattle.sanitize_uri.proofs.Encoded.{is_odd, Alike, neither, equal, strange, kept-bar, alike}

-- ---- a scheme of kept bytes

abbrev pub are_kept : List (List ℕ) → Bool
are_kept [] = true
are_kept (t ∷ ts) = all is_kept t && are_kept ts

letter-kept : (b : ℕ) → 65 ≤ b → b ≤ 90 → is_kept b ≡ true
letter-kept b h k = let l : 63 ≤ b = omega arith in rw (le-leb 63 b l, le-leb b 90 k, or-true)

odd-lower : (b : ℕ) → is_kept b ≡ false → is_kept (lower b) ≡ false
odd-lower b p = elim (dec_lt b 65) [
  | yes h ↦ rw (← lower-below b h) p
  | no h ↦ elim (dec_lt 90 b) [
    | yes k ↦ (let l : 65 ≤ b = omega arith in rw (← lower-above b l k) p)
    | no k ↦ absurd (true≢false (sym (letter-kept b (omega arith) (omega arith)) ∙ p))
  ]
]

odd-differs : (s t : List ℕ) → any is_odd s ≡ true → all is_kept t ≡ true → same (mapped lower s) t ≡ false
odd-differs [] t p q = absurd (true≢false (sym p))
odd-differs (x ∷ s) [] p q = refl
odd-differs (x ∷ s) (y ∷ t) p q = on (is_kept x) refl (odd-differs s t)
  where
    on : (k : Bool) → is_kept x ≡ k → (any is_odd s ≡ true → all is_kept t ≡ true → same (mapped lower s) t ≡ false) → (eqb (lower x) y && same (mapped lower s) t) ≡ false
    on false e f = rw (kept-bar (lower x) y (odd-lower x e) (and_left (is_kept y) (all is_kept t) q))
    on true e f = rw (f (rw e at p) (and_right (is_kept y) (all is_kept t) q), and-false)

odd-unlisted : (schemes : List (List ℕ)) (s : List ℕ) → are_kept schemes ≡ true → any is_odd s ≡ true → listed schemes (mapped lower s) ≡ false
odd-unlisted [] s p q = refl
odd-unlisted (t ∷ ts) s p q = rw (odd-differs s t q (and_left (all is_kept t) (are_kept ts) p)) (odd-unlisted ts s (and_right (all is_kept t) (are_kept ts) p) q)

-- ---- the answer

pub judged : (schemes : List (List ℕ)) → are_kept schemes ≡ true → (url : List ℕ) → is_allowed schemes (normalize_of url) ≡ is_allowed schemes url
judged schemes k url = judged-by schemes (normalize_of url) ∙ on (alike url) ∙ sym (judged-by schemes url)
  where
    on : {x y : Option (List ℕ)} → Alike x y → judge schemes y ≡ judge schemes x
    on neither = refl
    on equal = refl
    on (strange {s} {t} p q) = odd-unlisted schemes t k q ∙ sym (odd-unlisted schemes s k p)

pub link-judged : (url : List ℕ) → is_allowed link_schemes (normalize_of url) ≡ is_allowed link_schemes url
link-judged url = judged link_schemes refl url

pub image-judged : (url : List ℕ) → is_allowed image_schemes (normalize_of url) ≡ is_allowed image_schemes url
image-judged url = judged image_schemes refl url

-- a scheme with other bytes is judged otherwise: " " is not "%20", and percent-encoded it is
pub otherwise : (is_allowed (bytes "%20" ∷ []) (bytes " :") ≡ false) × (is_allowed (bytes "%20" ∷ []) (normalize_of (bytes " :")) ≡ true)
unfolding is_allowed colon_of colon_from normalize_of stays hex_upper percent url_byte
otherwise = (refl, refl)
