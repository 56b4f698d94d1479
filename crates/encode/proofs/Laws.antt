-- What the code of `encode` goes by. Assumes nothing.
use Rattle.std.proofs.Common.{◌≡◌, sym, ap, ◌∙◌, Bool, false, List, [], ◌++◌, ℕ, zero, suc, ◌+◌, ◌*◌, ◌≤◌, ◌<◌, arith, length, take, drop, get_or, drop_of_length-le, take-append-drop, drop-drop}
use Rattle.std.specs.Simd.{first_chunks}
use Rattle.lent.specs.Bytes.{each, any}
use Rattle.lent.proofs.Laws.{next, each_append, each-kept}
use Rattle.encode_byte.specs.declared.Escaping.{Escaping}
use Rattle.encode_byte.specs.Byte.{encode_byte}
use Rattle.encode_byte.specs.Private.{is_special}
use Rattle.encode_byte.proofs.Laws.{encode-plain}
use Rattle.encode.specs.Encode.{encode_of}

module _ (on : Escaping) where
  -- ---- a block whose bytes all stay

  pub plain-block : (l : List ℕ) (x : Bool) → x ≡ any (is_special on) l → x ≡ false → encode_of on l ≡ l
  unfolding encode_of
  plain-block l x p q = each-kept (encode_byte on) (is_special on) (encode-plain on) l (sym p ∙ q)

  -- ---- byte by byte

  pub byte_more : (l : List ℕ) (i : ℕ) → i < length l → encode_of on (drop i l) ≡ encode_byte on (get_or l i 0) ++ encode_of on (drop (i + 1) l)
  unfolding encode_of
  byte_more l i h = rw (next l i h)

  pub byte-end : (l : List ℕ) (i : ℕ) → length l ≤ i → encode_of on (drop i l) ≡ []
  unfolding encode_of
  byte-end l i h = rw (drop_of_length-le l h)

-- ---- block by block

-- the block at a place
block-at : (n k i : ℕ) (l d : List ℕ) → i < k → get_or (first_chunks n k l) i d ≡ take n (drop (i * n) l)
block-at n zero i l d h = absurd (omega arith)
block-at n (suc k) zero l d h = let z : 0 * n ≡ 0 = omega arith in rw z
block-at n (suc k) (suc i) l d h = let z : n + i * n ≡ suc i * n = omega arith in rw (← z, ← drop-drop) (block-at n k i (drop n l) d (omega arith))

module _ (on : Escaping) (l : List ℕ) (n i k : ℕ) where
  pub block_more : (blocks : List (List ℕ)) (d : List ℕ) → blocks ≡ first_chunks n k l → length blocks ≡ k → i < length blocks
      → encode_of on (drop (i * n) l) ≡ encode_of on (get_or blocks i d) ++ encode_of on (drop ((i + 1) * n) l)
  unfolding encode_of
  block_more blocks d p q h =
      let e : (i + 1) * n ≡ i * n + n = omega arith in
      let b : get_or blocks i d ≡ take n (drop (i * n) l) = rw p (block-at n k i l d (omega arith)) in
      rw (b, e, ← drop-drop) (ap (each (encode_byte on)) (sym (take-append-drop n (drop (i * n) l))) ∙ each_append (encode_byte on) (take n (drop (i * n) l)) (drop n (drop (i * n) l)))

  pub block_last : (m : ℕ) (rest : List ℕ) → m ≤ i → i ≤ m → m ≡ k → rest ≡ drop (k * n) l → encode_of on (drop (i * n) l) ≡ encode_of on rest
  block_last m rest h j p q = let e : i ≡ k = omega arith in rw (e, q)
