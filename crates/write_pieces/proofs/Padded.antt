-- Spaces and character references encoded for HTML. Assumes nothing.
use mathlib.Core.Path.{◌≡◌, refl}
use mathlib.Core.List.{List, [], ◌∷◌, ◌++◌}
use Prim.Native.Nat.{ℕ, zero, suc, ◌+◌, ◌-◌, ◌≤◌}
use native.Mathlib.Omega.{arith}
use lib.ListN.{length, take, drop, replicate}
use Rattle.lent.specs.Fill.{Filled}
use Rattle.lent.proofs.Laws.{both, each_append, take-fill, length-filled}
use Rattle.encode_byte.specs.declared.Escaping.{Escaping}
use Rattle.encode_byte.specs.declared.Escaping.TheVariants.{Off, Html, HtmlAndApostrophes}
use Rattle.encode.specs.Encode.{encode_byte, encode_of}
use Rattle.character_reference.specs.declared.Marker.{Marker}
use Rattle.character_reference.specs.declared.Names.{Names}
use Rattle.character_reference.specs.Reference.{reference_for, or_nothing}
use Rattle.character_reference.proofs.Laws.{at-most-four}

space : (on : Escaping) → encode_byte on 32 ≡ 32 ∷ []
unfolding encode_byte
space Off = refl
space Html = refl
space HtmlAndApostrophes = refl

-- spaces stay
encode-spaces : (on : Escaping) (n : ℕ) → encode_of on (replicate n 32) ≡ replicate n 32
unfolding encode_of
encode-spaces on zero = refl
encode-spaces on (suc n) = rw (space on, encode-spaces on n)

encode-append : (on : Escaping) (s t : List ℕ) → encode_of on (s ++ t) ≡ encode_of on s ++ encode_of on t
unfolding encode_of
encode-append on s t = each_append (encode_byte on) s t

pub padded : {d e f g : List ℕ} {at p q r : ℕ} (on : Escaping) (m n : ℕ) (s : List ℕ) → Filled d at (replicate m 32) e p → Filled e p (encode_of on s) f q → Filled f q (replicate n 32) g r
    → Filled d at (encode_of on (replicate m 32 ++ s ++ replicate n 32)) g r
padded on m n s x y z =
    rw (encode-append on (replicate m 32 ++ s) (replicate n 32), encode-append on (replicate m 32) s, encode-spaces on m, encode-spaces on n)
    (both (both x y) z)

-- ---- a reference in four bytes

module _ (names : Names) (m : Marker) (s : List ℕ) {d e : List ℕ} {n : ℕ} (four : length d ≡ 4) (f : Filled d 0 (or_nothing (reference_for names m s)) e n) where
  reference-long : n ≡ length (or_nothing (reference_for names m s))
  reference-long = let l = at-most-four names m s in let p = f.place in omega arith

  pub reference-fits : n ≤ length e
  reference-fits = let l = at-most-four names m s in let p = reference-long in let k = length-filled f in omega arith

  reference-bytes : take n e ≡ or_nothing (reference_for names m s)
  reference-bytes =
      let l = at-most-four names m s in
      let h : 0 + length (or_nothing (reference_for names m s)) ≤ length d = omega arith in
      let z : 0 + length (or_nothing (reference_for names m s)) ≡ n = omega (arith, reference-long) in
      rw f.bytes (rw z at (take-fill d 0 (or_nothing (reference_for names m s)) h))

  pub referenced : {g h : List ℕ} {at r : ℕ} (on : Escaping) → Filled g at (encode_of on (take (n - 0) (drop 0 e))) h r → Filled g at (encode_of on (or_nothing (reference_for names m s))) h r
  referenced on x = let z : n - 0 ≡ n = omega arith in rw (← reference-bytes) (rw z at x)
