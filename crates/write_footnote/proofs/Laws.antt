-- What `put_address` goes by: the walk over an identity, and the two bytes behind a %. Assumes nothing.
use Rattle.std.proofs.Common.{Some, None, Option, unwrap_or, arith, ◌≡◌, refl, ap, ◌∙◌, Bool, true, List, [], ◌∷◌, ◌++◌, ℕ, ne_eqb, drop, get_or}
use Rattle.std.proofs.Math.Bool.{and-false}
use Rattle.lent.specs.Bytes.{lower, mapped, is_alnum}
use Rattle.lent.proofs.Laws.{each_append}
use Rattle.encode_byte.specs.declared.Escaping.{Escaping}
use Rattle.encode_byte.specs.Byte.{escaping_of, encode_byte}
use Rattle.encode.specs.Encode.{encode_of}
use Rattle.url_byte.specs.Byte.{two_alnum, stays, url_byte}
use Rattle.url_byte.specs.Private.{byte_of}
use Rattle.normalize_uri.specs.Url.{normalize_of}
use Rattle.sanitize_uri.specs.Url.{sanitize_of}
use Rattle.normalize_identifier.specs.declared.Identity.{Identity}
use Rattle.normalize_identifier.specs.Identity.{identity_of}
use Rattle.normalize_identifier.specs.Left.{left}
use Rattle.std.specs.Char.{to_ascii_lowercase}
use Rattle.std.specs.Iterator.{YieldsFirst}
use Rattle.std.proofs.lemmas.Grind.{common_steps}
use Rattle.machine.specs.Footnote.{address_of}

-- ---- the walk

-- what is left to write, by what is left of an identity
abbrev pub address_left : Bool → List ℕ → List ℕ
address_left apostrophes l = sanitize_of apostrophes (mapped lower l)

-- what one byte of an identity becomes, before those that follow
abbrev pub written : Bool → ℕ → List ℕ → List ℕ
written apostrophes b bs = encode_of (escaping_of true apostrophes) (byte_of (mapped lower (b ∷ bs)))

pub address-start : (apostrophes : Bool) {l : List ℕ} (label : List ℕ) → l ≡ identity_of label → address_left apostrophes l ≡ address_of apostrophes label
unfolding address_of
address-start apostrophes label e = ap (address_left apostrophes) e

-- a byte before two others, as the code has it
pub before-two : (apostrophes : Bool) (b x y : ℕ) {on : Escaping} → on ≡ escaping_of true apostrophes
    → encode_of (escaping_of true apostrophes) (byte_of (b ∷ x ∷ y ∷ [])) ≡ encode_of on (byte_of (drop 0 (b ∷ x ∷ y ∷ [])))
before-two apostrophes b x y p = rw p

sanitize-more : (apostrophes : Bool) (b : ℕ) (bs : List ℕ) → sanitize_of apostrophes (b ∷ bs) ≡ encode_of (escaping_of true apostrophes) (byte_of (b ∷ bs)) ++ sanitize_of apostrophes bs
unfolding sanitize_of normalize_of encode_of byte_of
sanitize-more apostrophes b bs = each_append (encode_byte (escaping_of true apostrophes)) (url_byte (stays (b ∷ bs)) b) (normalize_of bs)

module _ (apostrophes : Bool) {l : List ℕ} where
  pub address_more : {b : ℕ} {m : List ℕ} → l ≡ b ∷ m → address_left apostrophes l ≡ written apostrophes b m ++ address_left apostrophes m
  address_more {b} {m} e = rw e (sanitize-more apostrophes (lower b) (mapped lower m))

  pub address-end : l ≡ [] → address_left apostrophes l ≡ []
  unfolding sanitize_of normalize_of encode_of
  address-end e = rw e

-- ---- one byte

pub lower-is : (b : ℕ) → to_ascii_lowercase b ≡ lower b
lower-is b = grind (arith, common_steps)

pub lowered : {x u v : ℕ} → x ≡ to_ascii_lowercase u → u ≡ v → x ≡ lower v
lowered {v = v} e f = e ∙ ap to_ascii_lowercase f ∙ lower-is v

-- any other than a % does not look on
pub of_other : (apostrophes : Bool) {l : ℕ} (b : ℕ) (bs : List ℕ) → l ≡ to_ascii_lowercase b → (l ≡ 37 → ⊥) → written apostrophes b bs ≡ encode_of (escaping_of true apostrophes) (byte_of (l ∷ 0 ∷ 0 ∷ []))
unfolding byte_of stays
of_other apostrophes {l} b bs q n = rw (← lower-is b, ← q, ne_eqb l 37 n)

two-ahead : (a : ℕ) (bs : List ℕ) → two_alnum (mapped lower bs) ≡ two_alnum (lower (get_or bs 0 0) ∷ lower (get_or bs 1 0) ∷ [])
unfolding two_alnum
two-ahead a [] = refl
two-ahead a (b ∷ []) = rw (and-false (is_alnum (lower b)))
two-ahead a (b ∷ c ∷ bs) = refl

-- what a step of an iterator gives, or 0, and what it leaves
pub ahead : (i j : Identity) (o : Option ℕ) → YieldsFirst left i o j → (unwrap_or o 0 ≡ get_or (left i) 0 0) × (left j ≡ drop 1 (left i))
ahead i j None h = (rw h.0, rw h.0 h.1)
ahead i j (Some b) h = (rw h, rw h)

-- a % and the two bytes behind it
pub of-sign : (apostrophes : Bool) {l x y : ℕ} (b : ℕ) (bs : List ℕ) → l ≡ to_ascii_lowercase b → l ≡ 37 → x ≡ lower (get_or bs 0 0) → y ≡ lower (get_or bs 1 0) → written apostrophes b bs ≡ encode_of (escaping_of true apostrophes) (byte_of (l ∷ x ∷ y ∷ []))
unfolding byte_of stays
of-sign apostrophes b bs q p e f = rw (← lower-is b, ← q, p, e, f, two-ahead 0 bs)

-- a % at an identity's end
pub of-last-sign : (apostrophes : Bool) {l : ℕ} (b : ℕ) (bs : List ℕ) → l ≡ to_ascii_lowercase b → l ≡ 37 → bs ≡ [] → written apostrophes b bs ≡ encode_of (escaping_of true apostrophes) (byte_of (l ∷ 0 ∷ 0 ∷ []))
of-last-sign apostrophes b bs q p e = of-sign apostrophes b bs q p (rw e refl) (rw e refl)
