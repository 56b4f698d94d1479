-- The code's own cases: the walk over a text, by blocks of ASCII bytes and byte by byte. Assumes nothing.
use Rattle.std.specs.Prelude.{if◌then◌else◌}
use Rattle.std.proofs.Common.{◌≡◌, refl, ◌∙◌, Bool, true, false, List, [], ◌∷◌, ℕ, zero, suc, ◌+◌, ◌-◌, ◌≤◌, ◌<◌, le_trans, le_refl, arith, add-one, lt-ltb, le-ltb, le-leb, ltb-true, bit_or, ltb, leb, length, take, drop, get_or, length-drop, drop_of_length-le, drop-cons, drop-drop}
use borrow.Author.Tests.{lt-leb}
use lib.Bits.{or_add_and, and_le_l, and_le_r}
use Rattle.utf8.specs.declared.Due.{Due}
use Rattle.utf8.specs.declared.Due.TheVariants.{First, Wrong}
use Rattle.utf8.specs.Table.{next, is_whole}
use Rattle.utf8.specs.Utf8.{run, is_utf8, inside}
use Rattle.utf8.specs.Private.{ascii_run, bits_of}
use Rattle.utf8.proofs.Table.{ascii-due}
use Rattle.utf8.proofs.Run.{run-wrong}

-- ---- the bits of a block

or_left : (a b : ℕ) → a ≤ bit_or a b
or_left a b = omega (arith, or_add_and a b, and_le_r a b)

or_right : (a b : ℕ) → b ≤ bit_or a b
or_right a b = omega (arith, or_add_and a b, and_le_l a b)

bits-grow : (h : ℕ) (s : List ℕ) → h ≤ bits_of h s
unfolding bits_of
bits-grow h [] = le_refl h
bits-grow h (b ∷ s) = le_trans (or_left h b) (bits-grow (bit_or h b) s)

-- a byte more, and the whole block
pub bits-more : (b : List ℕ) (k bits r : ℕ) → k < length b → bits_of bits (drop k b) ≡ r → bits_of (bit_or bits (get_or b k 0)) (drop (k + 1) b) ≡ r
unfolding bits_of
bits-more b k bits r h p = rw add-one ((rw (drop-cons b k 0 h) at p))

pub bits-end : (s : List ℕ) (i k bits : ℕ) → length (take (i + 16 - i) (drop i s)) ≤ k → bits_of bits (drop k (take (i + 16 - i) (drop i s))) ≡ bits_of 0 (take (i + 16 - i) (drop i s)) → bits ≡ bits_of 0 (take 16 (drop i s))
unfolding bits_of
bits-end s i k bits h p = let e : i + 16 - i ≡ 16 = omega arith in rw e at (rw (drop_of_length-le (take (i + 16 - i) (drop i s)) h) at p)

-- ---- a run of ASCII bytes

run-block : (n h : ℕ) (s : List ℕ) → n ≤ length s → bits_of h (take n s) ≤ 127 → n + ascii_run (drop n s) ≡ ascii_run s
unfolding ascii_run bits_of
run-block zero h s l k = omega arith
run-block (suc n) h [] l k = absurd (omega arith)
run-block (suc n) h (b ∷ s) l k =
    let m : b < 128 = omega (arith, or_right h b, bits-grow (bit_or h b) (take n s)) in
    let e = run-block n (bit_or h b) s (omega arith) k in
    rw (lt-ltb b 128 m) (omega arith)

module _ (s : List ℕ) (i r : ℕ) (p : i + ascii_run (drop i s) ≡ r) where
  pub block : (bits : ℕ) → bits ≡ bits_of 0 (take 16 (drop i s)) → bits ≤ 127 → 16 ≤ length s - i → i + 16 + ascii_run (drop (i + 16) s) ≡ r
  block bits e k l =
      let m : 16 ≤ length (drop i s) = rw length-drop l in
      let q : 16 + ascii_run (drop 16 (drop i s)) ≡ ascii_run (drop i s) = run-block 16 0 (drop i s) m (rw e at k) in
      omega (arith, rw drop-drop at q)

  pub one : i < length s → get_or s i 0 ≤ 127 → i + 1 + ascii_run (drop (i + 1) s) ≡ r
  unfolding ascii_run
  one h k =
      let m : get_or s i 0 < 128 = omega arith in
      let q = rw (drop-cons s i 0 h, lt-ltb (get_or s i 0) 128 m) at p in
      rw add-one (omega arith)

  pub stop : i < length s → 127 < get_or s i 0 → i ≡ r
  unfolding ascii_run
  stop h k =
      let q = rw (drop-cons s i 0 h, le-ltb (get_or s i 0) 128 k) at p in
      omega arith

  pub end : length s ≤ i → i ≡ r
  unfolding ascii_run
  end h =
      let q = rw (drop_of_length-le s h) at p in
      omega arith

run-fits : (s : List ℕ) → ascii_run s ≤ length s
unfolding ascii_run
run-fits [] = omega arith
run-fits (b ∷ s) = let h = run-fits s in elim (ltb b 128) as (λ t. (if t then suc (ascii_run s) else 0) ≤ suc (length s)) [ true ↦ omega arith | false ↦ omega arith ]

-- no byte is left
pub all-run : (s : List ℕ) (from i : ℕ) → from < length s → i + ascii_run (drop i s) ≡ from + ascii_run (drop from s) → length s ≤ i → length s ≡ from + ascii_run (drop from s)
all-run s from i h p l =
    let k : ascii_run (drop from s) ≤ length s - from = rw length-drop at (run-fits (drop from s)) in
    omega (arith, end s i (from + ascii_run (drop from s)) p l)

-- ASCII bytes leave a first byte due
skip : (s : List ℕ) → run First (drop (ascii_run s) s) ≡ run First s
unfolding ascii_run
skip [] = refl
skip (b ∷ s) = go (ltb b 128) refl (skip s)
  where
    go : (t : Bool) → ltb b 128 ≡ t → run First (drop (ascii_run s) s) ≡ run First s → run First (drop (ascii_run (b ∷ s)) (b ∷ s)) ≡ run First (b ∷ s)
    go true e h = let k = ltb-true b 128 e in rw (e, ← ascii-due b k) h
    go false e h = rw e

pub begun : (s : List ℕ) (i : ℕ) → i ≡ 0 + ascii_run (drop 0 s) → is_whole (run First (drop i s)) ≡ is_utf8 s
unfolding is_utf8
begun s i e = let z : i ≡ ascii_run s = omega arith in rw (z, skip)

-- e is due behind the byte at i
module _ (s : List ℕ) (i : ℕ) (d e : Due) (w : Bool) (p : is_whole (run d (drop i s)) ≡ w) (h : i < length s) (q : e ≡ next d (get_or s i 0)) where
  pub on : is_whole (run e (drop (i + 1) s)) ≡ w
  on = rw (add-one, q) (rw (drop-cons s i 0 h) at p)

  pub wrong : e ≡ Wrong → false ≡ w
  wrong k = let o = on in rw (k, run-wrong) at o

  pub skipped : (r : ℕ) → e ≡ First → r ≡ i + 1 + ascii_run (drop (i + 1) s) → is_whole (run e (drop r s)) ≡ w
  skipped r k l = rw (k, l, ← drop-drop, skip, ← k) on

pub ended : (s : List ℕ) (i : ℕ) (d : Due) (r w : Bool) → is_whole (run d (drop i s)) ≡ w → length s ≤ i → r ≡ is_whole d → r ≡ w
ended s i d r w p h q = q ∙ (rw (drop_of_length-le s h) at p)

-- ---- one byte of a text

module _ (s : List ℕ) (i : ℕ) where
  pub past_end : length s ≤ i → false ≡ inside s i
  unfolding inside
  past_end h = rw (le-ltb i (length s) h)

  pub starts-low : i < length s → get_or s i 0 < 0x80 → false ≡ inside s i
  unfolding inside
  starts-low h k = rw (lt-ltb i (length s) h, lt-leb 0x80 (get_or s i 0) k)

  pub by-top : i < length s → 0x80 ≤ get_or s i 0 → leb (get_or s i 0) 0xBF ≡ inside s i
  unfolding inside
  by-top h k = rw (lt-ltb i (length s) h, le-leb 0x80 (get_or s i 0) k)
