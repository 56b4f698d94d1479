-- Sanitizing gives at most five bytes for each byte, and all & reaches it; normalizing three, which all spaces reach. Assumes nothing.
use mathlib.Core.Path.{◌≡◌, refl, ap, ◌∙◌}
use mathlib.Core.Bool.{Bool, true, false}
use mathlib.Core.List.{List, [], ◌∷◌}
use Prim.Native.Nat.{ℕ, zero, suc, ◌+◌, ◌*◌, ◌/◌, ◌%◌, ◌≤◌}
use native.Mathlib.Decide.{dec_lt}
use native.Mathlib.Omega.{arith}
use lib.ListN.{length, replicate, length-append}
use Rattle.lent.proofs.Laws.{each_append}
use Rattle.encode_byte.specs.declared.Escaping.{Escaping}
use Rattle.encode_byte.specs.Byte.{escaping_of}
use Rattle.encode_byte.proofs.Laws.{kept}
use Rattle.encode.specs.Encode.{encode_byte, encode_of}
use Rattle.url_byte.specs.Byte.{stays, hex_upper, percent, url_byte}
use Rattle.url_byte.proofs.Laws.{hex-low, hex-high}
use Rattle.sanitize_uri.specs.Url.{normalize_of, sanitize_of}
use Rattle.std.specs.Prelude.{None}
use Rattle.sanitize_uri.specs.Protocols.{colon_from, colon_of, is_allowed, sanitize_with_protocols_of}
use Rattle.call_room.specs.Room.{most_sanitized, most_normalized}
use Rattle.call_room.proofs.Growth.{grows, reaches, either}
use Rattle.call_room.proofs.Escaped.{byte-shorter}

-- ---- percent-encoded

url-most : (x : Bool) (b : ℕ) → length (url_byte x b) ≤ most_normalized
unfolding url_byte percent
url-most true b = omega arith
url-most false b = omega arith

normalized-none : length (normalize_of []) ≡ 0
unfolding normalize_of
normalized-none = refl

normalized-more : (b : ℕ) (s : List ℕ) → length (normalize_of (b ∷ s)) ≡ length (url_byte (stays (b ∷ s)) b) + length (normalize_of s)
unfolding normalize_of
normalized-more b s = length-append (url_byte (stays (b ∷ s)) b) (normalize_of s)

pub normalized-most : (url : List ℕ) → length (normalize_of url) ≤ most_normalized * length url
normalized-most url = grows normalize_of most_normalized normalized-none (λ b s. omega (arith, normalized-more b s, url-most (stays (b ∷ s)) b)) url

pub normalized-reaches : (n : ℕ) → length (normalize_of (replicate n 32)) ≡ most_normalized * n
unfolding stays url_byte percent
normalized-reaches n = reaches normalize_of most_normalized normalized-none 32 (λ s. normalized-more 32 s) n

-- ---- and encoded for HTML

digit : (on : Escaping) (n : ℕ) → encode_byte on (hex_upper n) ≡ hex_upper n ∷ []
digit on n =
    elim (dec_lt n 10) [
      | yes k ↦ rw (← hex-low n k) (kept on (48 + n) (omega arith) (omega arith) (omega arith) (omega arith) (omega arith) (omega arith))
      | no k ↦
          let k' : 10 ≤ n = omega arith in
          rw (← hex-high n k') (kept on (55 + n) (omega arith) (omega arith) (omega arith) (omega arith) (omega arith) (omega arith))
    ]

-- a " never stays
no-quote : (b : ℕ) (s : List ℕ) → stays (b ∷ s) ≡ true → b ≡ 34 → ⊥
unfolding stays
no-quote b s p q = let z : false ≡ true = rw q at p in let y : ◌≡◌ {A = ℕ} 0 1 = cc in omega arith

byte-most : (on : Escaping) (b : ℕ) (s : List ℕ) (x : Bool) → stays (b ∷ s) ≡ x → length (encode_of on (url_byte x b)) ≤ most_sanitized
unfolding encode_of url_byte percent
byte-most on b s true p = rw length-append (omega (arith, byte-shorter on b (no-quote b s p)))
byte-most on b s false p =
    rw (digit on (b / 16), digit on (b % 16), kept on 37 (omega arith) (omega arith) (omega arith) (omega arith) (omega arith) (omega arith)) (omega arith)

module _ (apostrophes : Bool) where
  sanitized-none : length (sanitize_of apostrophes []) ≡ 0
  unfolding sanitize_of normalize_of encode_of
  sanitized-none = refl

  sanitized-more : (b : ℕ) (s : List ℕ)
      → length (sanitize_of apostrophes (b ∷ s)) ≡ length (encode_of (escaping_of true apostrophes) (url_byte (stays (b ∷ s)) b)) + length (sanitize_of apostrophes s)
  unfolding sanitize_of normalize_of encode_of
  sanitized-more b s =
      let on = escaping_of true apostrophes in
      ap length (each_append (encode_byte on) (url_byte (stays (b ∷ s)) b) (normalize_of s)) ∙ length-append (encode_of on (url_byte (stays (b ∷ s)) b)) (sanitize_of apostrophes s)

  pub sanitized-most : (url : List ℕ) → length (sanitize_of apostrophes url) ≤ most_sanitized * length url
  sanitized-most url =
      grows (sanitize_of apostrophes) most_sanitized sanitized-none (λ b s. omega (arith, sanitized-more b s, byte-most (escaping_of true apostrophes) b s (stays (b ∷ s)) refl)) url

pub sanitized-reaches : (apostrophes : Bool) (n : ℕ) → length (sanitize_of apostrophes (replicate n 38)) ≡ most_sanitized * n
unfolding stays url_byte encode_of encode_byte
sanitized-reaches true n = reaches (sanitize_of true) most_sanitized (sanitized-none true) 38 (λ s. sanitized-more true 38 s) n
sanitized-reaches false n = reaches (sanitize_of false) most_sanitized (sanitized-none false) 38 (λ s. sanitized-more false 38 s) n

-- ---- with a list of schemes

pub listed-most : (apostrophes : Bool) (schemes : List (List ℕ)) (url : List ℕ) → length (sanitize_with_protocols_of apostrophes schemes url) ≤ most_sanitized * length url
unfolding sanitize_with_protocols_of
listed-most apostrophes schemes url =
    either (is_allowed schemes url) (most_sanitized * length url) (sanitize_of apostrophes url) [] (sanitized-most apostrophes url) (omega arith)

no-colon : (i n : ℕ) → colon_from i (replicate n 38) ≡ None
unfolding colon_from
no-colon i zero = refl
no-colon i (suc n) = no-colon (i + 1) n

pub listed-reaches : (apostrophes : Bool) (schemes : List (List ℕ)) (n : ℕ) → length (sanitize_with_protocols_of apostrophes schemes (replicate n 38)) ≡ most_sanitized * n
unfolding sanitize_with_protocols_of is_allowed colon_of
listed-reaches apostrophes schemes n = rw (no-colon 0 n) (sanitized-reaches apostrophes n)
