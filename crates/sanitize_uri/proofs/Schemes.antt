-- What the code of `sanitize_uri` goes by: the colon, and the scheme before it. Assumes nothing.
use Rattle.std.proofs.Common.{if◌then◌else◌, ◌≡◌, refl, sym, ◌∙◌, Bool, true, false, not, ◌||◌, List, [], ◌∷◌, ℕ, ◌+◌, ◌-◌, ◌≤◌, ◌<◌, arith, ne_eqb, le-leb, eqb, Option, Some, None, ◌⊎◌, inl, inr, map, IsTrue, ◌↔◌, ap₂, length, take, drop, get_or, drop_of_length-le}
use mathlib.Core.Bool.{or-false, or_assoc}
use borrow.Author.Tests.{lt-leb}
use Rattle.std.specs.Char.{to_ascii_lowercase}
use Rattle.std.proofs.lemmas.Bool.Decides.{nat_tests}
use Rattle.lent.proofs.Same.{same-iff}
use Rattle.lent.specs.Bytes.{bytes, one_of, same, mapped, lower, listed}
use Rattle.lent.specs.declared.Writer.{Writer}
use Rattle.lent.specs.Writer.{Writes}
use Rattle.lent.proofs.Laws.{next}
use Rattle.lent.proofs.Writing.{nothing}
use Rattle.encode_byte.specs.declared.Escaping.{Escaping}
use Rattle.encode_byte.specs.Byte.{escaping_of}
use Rattle.encode.specs.Encode.{encode_of}
use Rattle.normalize_uri.specs.Url.{normalize_of}
use Rattle.sanitize_uri.specs.declared.Protocols.{Protocols}
use Rattle.sanitize_uri.specs.Url.{sanitize_of}
use Rattle.sanitize_uri.specs.Protocols.{colon_from, colon_of, link_schemes, image_schemes, schemes_of, is_allowed, sanitize_with_protocols_of}

-- ---- the colon

module _ (i : ℕ) (l : List ℕ) (w : Option ℕ) (p : colon_from i (drop i l) ≡ w) where
  module _ (h : i < length l) where
    pub colon-found : get_or l i 0 ≡ 58 → Some i ≡ w
    unfolding colon_from
    colon-found q = rw (next l i h, q) at p

    pub colon-barred : (get_or l i 0 ≡ 35) ⊎ ((get_or l i 0 ≡ 47) ⊎ (get_or l i 0 ≡ 63)) → None ≡ w
    unfolding colon_from
    colon-barred (inl q) = rw (next l i h, q) at p
    colon-barred (inr (inl q)) = rw (next l i h, q) at p
    colon-barred (inr (inr q)) = rw (next l i h, q) at p

    pub colon-next : (get_or l i 0 ≡ 58 → ⊥) → ((get_or l i 0 ≡ 35) ⊎ ((get_or l i 0 ≡ 47) ⊎ (get_or l i 0 ≡ 63)) → ⊥) → colon_from (i + 1) (drop (i + 1) l) ≡ w
    unfolding colon_from
    colon-next c n =
        rw (next l i h, ne_eqb (get_or l i 0) 58 c, ne_eqb (get_or l i 0) 63 (λ q. n (inr (inr q))), ne_eqb (get_or l i 0) 35 (λ q. n (inl q)), ne_eqb (get_or l i 0) 47 (λ q. n (inr (inl q)))) at p

  pub colon-missing : length l ≤ i → None ≡ w
  unfolding colon_from
  colon-missing h = rw (drop_of_length-le l h) at p

colon-case : (x y : Bool) (i n k : ℕ) (rest : Option ℕ) → i < k → (rest ≡ Some n → n < k) → (if x then Some i else (if y then None else rest)) ≡ Some n → n < k
colon-case true y i n k rest h f p = let q : i ≡ n = cc in omega arith
colon-case false true i n k rest h f p = let z : ◌≡◌ {A = ℕ} 0 1 = cc in absurd (omega arith)
colon-case false false i n k rest h f p = f p

colon-place : (i : ℕ) (l : List ℕ) (n : ℕ) → colon_from i l ≡ Some n → n < i + length l
unfolding colon_from
colon-place i [] n p = let z : ◌≡◌ {A = ℕ} 0 1 = cc in absurd (omega arith)
colon-place i (b ∷ l) n p =
    let f : colon_from (i + 1) l ≡ Some n → n < i + length (b ∷ l) = λ q. let h = colon-place (i + 1) l n q in omega arith in
    colon-case (eqb b 58) (one_of (bytes "?#/") b) i n (i + length (b ∷ l)) (colon_from (i + 1) l) (omega arith) f p

pub colon-inside : (l : List ℕ) (n : ℕ) (c : Option ℕ) → c ≡ colon_of l → c ≡ Some n → n ≤ length l
unfolding colon_of
colon-inside l n c p q = let h = colon-place 0 l n (sym p ∙ q) in omega arith

-- ---- the scheme

module _ (b : ℕ) where
  pub lower-below : b < 65 → b ≡ lower b
  lower-below h = rw (lt-leb 65 b h)

  pub lower_in : 65 ≤ b → b ≤ 90 → b + 32 ≡ lower b
  lower_in h k = rw (le-leb 65 b h, le-leb b 90 k)

  pub lower-above : 65 ≤ b → 90 < b → b ≡ lower b
  lower-above h k = rw (le-leb 65 b h, lt-leb b 90 k)

as-library : (b : ℕ) → lower b ≡ to_ascii_lowercase b
as-library b = grind (arith, nat_tests)

mapped-as-library : (s : List ℕ) → mapped lower s ≡ map to_ascii_lowercase s
mapped-as-library [] = refl
mapped-as-library (b ∷ s) = ap₂ (λ (x : ℕ) (y : List ℕ). x ∷ y) (as-library b) (mapped-as-library s)

alike : (x y : Bool) → (x ≡ true → y ≡ true) → (y ≡ true → x ≡ true) → x ≡ y
alike true y f g = sym (f refl)
alike false true f g = g refl
alike false false f g = refl

pub is-word : (s t : List ℕ) (x : Bool) → (IsTrue x ↔ (map to_ascii_lowercase s ≡ map to_ascii_lowercase t)) → x ≡ same (mapped lower s) (mapped lower t)
is-word s t x p =
    rw (mapped-as-library s, mapped-as-library t)
    (let e = same-iff (map to_ascii_lowercase s) (map to_ascii_lowercase t) in
    alike x (same (map to_ascii_lowercase s) (map to_ascii_lowercase t)) (λ q. e.1 (p.0 q)) (λ q. p.1 (e.0 q)))

-- ---- the answers

pub two-words : (s : List ℕ) (a b : Bool) → a ≡ same s (bytes "http") → b ≡ same s (bytes "https") → (a || b) ≡ listed image_schemes s
two-words s a b p q = rw (p, q, or-false)

pub six-words : (s : List ℕ) (a b c d e f : Bool) → a ≡ same s (bytes "http") → b ≡ same s (bytes "https") → c ≡ same s (bytes "irc") → d ≡ same s (bytes "ircs")
    → e ≡ same s (bytes "mailto") → f ≡ same s (bytes "xmpp") → (a || b || c || d || e || f) ≡ listed link_schemes s
six-words s a b c d e f p q r t u v = rw (p, q, r, t, u, v) (simp (or_assoc, or-false))

pub listed_by : (p q : Protocols) (s : List ℕ) (x : Bool) → p ≡ q → x ≡ listed (schemes_of q) s → x ≡ listed (schemes_of p) s
listed_by p q s x e h = rw e h

module _ (l : List ℕ) (schemes : List (List ℕ)) (c : Option ℕ) (p : c ≡ colon_of l) where
  pub allowed_at_lem : (n : ℕ) (x : Bool) → c ≡ Some n → x ≡ listed schemes (mapped lower (take (n - 0) l)) → x ≡ is_allowed schemes l
  unfolding is_allowed
  allowed_at_lem n x q k = let z : n - 0 ≡ n = omega arith in rw (← p, q) (rw z at k)

  pub allowed-missing : c ≡ None → true ≡ is_allowed schemes l
  unfolding is_allowed
  allowed-missing q = rw (← p, q)

module _ (apostrophes : Bool) (schemes : List (List ℕ)) (l : List ℕ) (x : Bool) (p : x ≡ is_allowed schemes l) where
  pub not-allowed : {w : Writer} → x ≡ false → Writes (sanitize_with_protocols_of apostrophes schemes l) w w
  unfolding sanitize_with_protocols_of
  not-allowed q = rw (← p, q) nothing

  pub is-allowed : x ≡ true → sanitize_with_protocols_of apostrophes schemes l ≡ sanitize_of apostrophes l
  unfolding sanitize_with_protocols_of
  is-allowed q = rw (← p, q)

pub sanitized : (apostrophes : Bool) (l : List ℕ) {on : Escaping} → on ≡ escaping_of true apostrophes → sanitize_of apostrophes l ≡ encode_of on (normalize_of l)
unfolding sanitize_of
sanitized apostrophes l p = rw p
