-- Escaping gives at most six bytes for each byte, and all " reaches it; without encoding three, which all NUL reaches. Assumes nothing.
use mathlib.Core.Path.{◌≡◌, refl}
use mathlib.Core.Bool.{true, not, ◌&&◌}
use mathlib.Core.List.{List, [], ◌∷◌}
use Prim.Native.Nat.{ℕ, ◌+◌, ◌*◌, ◌≤◌}
use native.Mathlib.Omega.{arith}
use borrow.Author.Tests.{ne_eqb}
use lib.Dec.{eqb}
use lib.ListN.{length, replicate, length-append}
use Rattle.encode_byte.specs.declared.Escaping.{Escaping}
use Rattle.encode_byte.specs.declared.Escaping.TheVariants.{Off}
use Rattle.encode_byte.specs.Byte.{escapes_html, escapes_apostrophes}
use Rattle.encode.specs.Encode.{encode_byte, encode_of}
use Rattle.call_room.specs.Room.{most_escaped, most_replaced}
use Rattle.call_room.proofs.Growth.{grows, reaches, either}

-- ---- one byte: a line for each that becomes something else

byte-most : (on : Escaping) (b : ℕ) → length (encode_byte on b) ≤ most_escaped
unfolding encode_byte
byte-most on b =
    either (eqb b 0) most_escaped _ _ (omega arith)
    (either (not (escapes_html on)) most_escaped _ _ (omega arith)
    (either (eqb b 38) most_escaped _ _ (omega arith)
    (either (eqb b 60) most_escaped _ _ (omega arith)
    (either (eqb b 62) most_escaped _ _ (omega arith)
    (either (eqb b 34) most_escaped _ _ (omega arith)
    (either (escapes_apostrophes on && eqb b 39) most_escaped _ _ (omega arith)
    (omega arith)))))))

-- but " all are shorter
pub byte-shorter : (on : Escaping) (b : ℕ) → (b ≡ 34 → ⊥) → length (encode_byte on b) ≤ 5
unfolding encode_byte
byte-shorter on b n =
    rw (ne_eqb b 34 n)
    (either (eqb b 0) 5 _ _ (omega arith)
    (either (not (escapes_html on)) 5 _ _ (omega arith)
    (either (eqb b 38) 5 _ _ (omega arith)
    (either (eqb b 60) 5 _ _ (omega arith)
    (either (eqb b 62) 5 _ _ (omega arith)
    (either (escapes_apostrophes on && eqb b 39) 5 _ _ (omega arith)
    (omega arith)))))))

byte-bare : (b : ℕ) → length (encode_byte Off b) ≤ most_replaced
unfolding encode_byte
byte-bare b = either (eqb b 0) most_replaced _ _ (omega arith) (omega arith)

-- ---- a text

module _ (on : Escaping) where
  none : length (encode_of on []) ≡ 0
  unfolding encode_of
  none = refl

  more : (b : ℕ) (s : List ℕ) → length (encode_of on (b ∷ s)) ≡ length (encode_byte on b) + length (encode_of on s)
  unfolding encode_of
  more b s = length-append (encode_byte on b) (encode_of on s)

  pub escaped-most : (s : List ℕ) → length (encode_of on s) ≤ most_escaped * length s
  escaped-most s = grows (encode_of on) most_escaped none (λ b t. omega (arith, more b t, byte-most on b)) s

pub replaced-most : (s : List ℕ) → length (encode_of Off s) ≤ most_replaced * length s
replaced-most s = grows (encode_of Off) most_replaced (none Off) (λ b t. omega (arith, more Off b t, byte-bare b)) s

-- with HTML escaped, apostrophes or not
pub escaped-reaches : (on : Escaping) → escapes_html on ≡ true → (n : ℕ) → length (encode_of on (replicate n 34)) ≡ most_escaped * n
unfolding encode_byte
escaped-reaches on h n = reaches (encode_of on) most_escaped (none on) 34 (λ t. let k : length (encode_byte on 34) ≡ 6 = rw h in omega (arith, more on 34 t)) n

pub replaced-reaches : (n : ℕ) → length (encode_of Off (replicate n 0)) ≡ most_replaced * n
unfolding encode_byte
replaced-reaches n = reaches (encode_of Off) most_replaced (none Off) 0 (λ t. omega (arith, more Off 0 t)) n
