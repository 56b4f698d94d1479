-- What the code of `normalize_uri` goes by: the walk over the bytes. Assumes nothing.
use Rattle.std.proofs.Common.{◌≡◌, refl, sym, ap, ◌∙◌, Bool, true, false, List, [], ◌∷◌, ◌++◌, append-nil, append_assoc, ℕ, zero, suc, ◌+◌, ◌-◌, ◌/◌, ◌%◌, ◌≤◌, ◌<◌, arith, length, drop, get_or, drop_of_length-le, drop-drop}
use native.Mathlib.Decide.{dec_lt}
use Rattle.lent.specs.Bytes.{each}
use Rattle.lent.proofs.Laws.{next, each_append}
use Rattle.encode_byte.specs.declared.Escaping.{Escaping}
use Rattle.encode_byte.specs.declared.Escaping.TheVariants.{Off}
use Rattle.encode_byte.specs.Byte.{encode_byte}
use Rattle.encode_byte.proofs.Laws.{off}
use Rattle.encode.specs.Encode.{encode_of}
use Rattle.url_byte.specs.Byte.{stays, hex_upper, percent, url_byte}
use Rattle.url_byte.specs.Private.{byte_of}
use Rattle.url_byte.proofs.Laws.{hex-low, hex-high}
use Rattle.normalize_uri.specs.Url.{normalize_of}
use Rattle.normalize_uri.specs.Private.{part_of}

-- ---- the walk

module _ (on : Escaping) (l : List ℕ) (i to : ℕ) where
  pub part-more : i < to → to ≤ length l → encode_of on (part_of (to - i) (drop i l)) ≡ encode_of on (byte_of (drop i l)) ++ encode_of on (part_of (to - (i + 1)) (drop (i + 1) l))
  unfolding part_of encode_of
  part-more h k =
      let e : to - i ≡ suc (to - (i + 1)) = omega arith in
      let m : i < length l = omega arith in
      rw (e, next l i m) (each_append (encode_byte on) (byte_of (get_or l i 0 ∷ drop (i + 1) l)) (part_of (to - (i + 1)) (drop (i + 1) l)))

  pub part_end : to ≤ i → encode_of on (part_of (to - i) (drop i l)) ≡ []
  unfolding part_of encode_of
  part_end h = let e : to - i ≡ 0 = omega arith in rw e

-- a part, and the rest
part-rest : (n : ℕ) (l : List ℕ) → normalize_of l ≡ part_of n l ++ normalize_of (drop n l)
unfolding normalize_of part_of byte_of
part-rest zero l = refl
part-rest (suc n) [] = refl
part-rest (suc n) (b ∷ l) = ap (λ (x : List ℕ). url_byte (stays (b ∷ l)) b ++ x) (part-rest n l) ∙ sym (append_assoc (url_byte (stays (b ∷ l)) b) (part_of n l) (normalize_of (drop n l)))

module _ (on : Escaping) (l : List ℕ) (i : ℕ) where
  pub block_more : (n : ℕ) → encode_of on (normalize_of (drop i l)) ≡ encode_of on (part_of n (drop i l)) ++ encode_of on (normalize_of (drop (i + n) l))
  unfolding encode_of
  block_more n =
      ap (each (encode_byte on)) (part-rest n (drop i l))
      ∙ each_append (encode_byte on) (part_of n (drop i l)) (normalize_of (drop n (drop i l)))
      ∙ rw drop-drop

  pub block_last : encode_of on (normalize_of (drop i l)) ≡ encode_of on (part_of (length l - i) (drop i l))
  unfolding normalize_of
  block_last =
      let h : length l ≤ i + (length l - i) = omega arith in
      ap (encode_of on) (part-rest (length l - i) (drop i l) ∙ rw (drop-drop, drop_of_length-le l h) (append-nil (part_of (length l - i) (drop i l))))

pub part-cons : (on : Escaping) (k b : ℕ) (l : List ℕ) → encode_of on (part_of (suc k) (b ∷ l)) ≡ encode_of on (byte_of (b ∷ l)) ++ encode_of on (part_of k l)
unfolding part_of encode_of
part-cons on k b l = each_append (encode_byte on) (byte_of (b ∷ l)) (part_of k l)

-- a part in two
part_none : (n : ℕ) → part_of n [] ≡ []
unfolding part_of
part_none zero = refl
part_none (suc n) = refl

part_cut : (k n : ℕ) (l : List ℕ) → k ≤ n → part_of n l ≡ part_of k l ++ part_of (n - k) (drop k l)
unfolding part_of
part_cut zero n l h = let e : n - 0 ≡ n = omega arith in rw e
part_cut (suc k) zero l h = absurd (omega arith)
part_cut (suc k) (suc n) [] h = sym (part_none (suc n - suc k))
part_cut (suc k) (suc n) (b ∷ l) h =
    let e : suc n - suc k ≡ n - k = omega arith in
    let m : k ≤ n = omega arith in
    rw e (ap (λ (x : List ℕ). byte_of (b ∷ l) ++ x) (part_cut k n l m) ∙ sym (append_assoc (byte_of (b ∷ l)) (part_of k l) (part_of (n - k) (drop k l))))

pub part-two : (on : Escaping) (k n : ℕ) (l : List ℕ) → k ≤ n → encode_of on (part_of n l) ≡ encode_of on (part_of k l) ++ encode_of on (part_of (n - k) (drop k l))
unfolding encode_of
part-two on k n l h = ap (each (encode_byte on)) (part_cut k n l h) ∙ each_append (encode_byte on) (part_of k l) (part_of (n - k) (drop k l))

-- ---- encoding off leaves a percent-encoded URL as it is: it holds no NUL

hex-off : (n : ℕ) → encode_byte Off (hex_upper n) ≡ hex_upper n ∷ []
hex-off n =
    elim (dec_lt n 10) [
      | yes k ↦ rw (← hex-low n k) (off (48 + n) (omega arith))
      | no k ↦
          let k' : 10 ≤ n = omega arith in
          rw (← hex-high n k') (off (55 + n) (omega arith))
    ]

no_nul : (b : ℕ) (bs : List ℕ) → stays (b ∷ bs) ≡ true → b ≡ 0 → ⊥
unfolding stays
no_nul b bs p q = let z : false ≡ true = rw q at p in let y : ◌≡◌ {A = ℕ} 0 1 = cc in omega arith

byte-off : (b : ℕ) (bs : List ℕ) (x : Bool) → stays (b ∷ bs) ≡ x → encode_of Off (url_byte x b) ≡ url_byte x b
unfolding encode_of url_byte percent
byte-off b bs true p = rw (off b (no_nul b bs p))
byte-off b bs false p = rw (hex-off (b / 16), hex-off (b % 16), off 37 (omega arith))

pub normalized : (l : List ℕ) → normalize_of l ≡ encode_of Off (normalize_of l)
unfolding normalize_of encode_of
normalized [] = refl
normalized (b ∷ l) =
    sym (each_append (encode_byte Off) (url_byte (stays (b ∷ l)) b) (normalize_of l) ∙ rw (byte-off b l (stays (b ∷ l)) refl, ← normalized l))
