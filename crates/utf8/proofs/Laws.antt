-- The laws of UTF-8, each over the length: what other crates cite. Assumes nothing.
use Rattle.std.proofs.Common.{◌≡◌, refl, sym, ◌∙◌, false, ◌↔◌, List, [], ◌∷◌, ◌++◌, ℕ, zero, suc, ◌+◌, ◌-◌, ◌≤◌, ◌<◌, lt_of_not-le, arith, add-one, lt-ltb, le-ltb, T, ltb→lt, length, take, drop, get_or, take-append-drop, take-add, take-suc}
use Rattle.std.proofs.Math.Decide.{dec_le}
use borrow.Author.Tests.{lt-leb}
use Rattle.std.proofs.Math.Dec.{leb-suc-suc}
use Rattle.lent.specs.Bytes.{all, each}
use Rattle.utf8.specs.declared.Due.{Due}
use Rattle.utf8.specs.declared.Due.TheVariants.{First, More, Wrong}
use Rattle.utf8.specs.Table.{next, is_whole}
use Rattle.utf8.specs.Utf8.{run, is_utf8, is_ascii, is_continuation, inside}
use Rattle.lent.proofs.Computed.{and_left, and_right, to}
use Rattle.utf8.proofs.Table.{ascii-due, high-wrong, is_sound}
use Rattle.utf8.proofs.Run.{never-whole, whole, sound-next, sound-run, continues, due-first, no-continuation}
pub use Rattle.utf8.proofs.Run.{run-append, run-wrong}

-- ---- valid texts

-- a text is valid where a first byte is due behind it
pub to-first : (s : List ℕ) → T (is_utf8 s) → run First s ≡ First
unfolding is_utf8
to-first s t = whole (run First s) t

pub of-first : (s : List ℕ) → run First s ≡ First → T (is_utf8 s)
unfolding is_utf8
of-first s e = rw e tt

pub empty : T (is_utf8 [])
unfolding is_utf8
empty = tt

pub joined : (s t : List ℕ) → T (is_utf8 s) → T (is_utf8 t) → T (is_utf8 (s ++ t))
joined s t p q = of-first (s ++ t) (run-append First s t ∙ rw (to-first s p) (to-first t q))

-- ---- places inside a character

inside-none : (i : ℕ) → inside [] i ≡ false
unfolding inside
inside-none i = rw (le-ltb i 0 (omega arith))

inside-here : (b : ℕ) (s : List ℕ) → inside (b ∷ s) 0 ≡ is_continuation b
unfolding inside
inside-here b s = let h : 0 < suc (length s) = omega arith in rw (lt-ltb 0 (suc (length s)) h)

inside-there : (b : ℕ) (s : List ℕ) (i : ℕ) → inside (b ∷ s) (suc i) ≡ inside s i
unfolding inside
inside-there b s i = rw leb-suc-suc

first-at : (d : Due) (s : List ℕ) (i : ℕ) → T (is_sound d) → T (is_whole (run d s)) → inside s i ≡ false → run d (take i s) ≡ First
first-at d [] zero p h e = whole d h
first-at d [] (suc i) p h e = whole d h
first-at d (b ∷ s) zero p h e = due-first d b s p h (sym (inside-here b s) ∙ e)
first-at d (b ∷ s) (suc i) p h e = first-at (next d b) s i (sound-next d b p) h (sym (inside-there b s i) ∙ e)

outside-at : (d : Due) (s : List ℕ) (i : ℕ) → T (is_whole (run d s)) → run d (take i s) ≡ First → inside s i ≡ false
outside-at d [] i h e = inside-none i
outside-at d (b ∷ s) zero h e = inside-here b s ∙ no-continuation b s (rw e at h)
outside-at d (b ∷ s) (suc i) h e = inside-there b s i ∙ outside-at (next d b) s i h e

module _ (s : List ℕ) (v : T (is_utf8 s)) where
  -- a place is outside exactly where a first byte is due
  pub boundary : (i : ℕ) → (inside s i ≡ false) ↔ (run First (take i s) ≡ First)
  unfolding is_utf8
  boundary i = (first-at First s i tt v, outside-at First s i v)

  pub cut-take : (i : ℕ) → inside s i ≡ false → T (is_utf8 (take i s))
  cut-take i e = of-first (take i s) ((boundary i).0 e)

  pub cut-drop : (i : ℕ) → inside s i ≡ false → T (is_utf8 (drop i s))
  cut-drop i e =
      let q : run (run First (take i s)) (drop i s) ≡ First = sym (run-append First (take i s) (drop i s)) ∙ rw take-append-drop (to-first s v) in
      of-first (drop i s) (rw ((boundary i).0 e) at q)

  -- the text between two places
  pub part : (a b : ℕ) → inside s a ≡ false → inside s b ≡ false → T (is_utf8 (take (b - a) (drop a s)))
  part a b p q = elim (dec_le a b) [
    | yes h ↦
        let e : a + (b - a) ≡ b = omega arith in
        let r : run (run First (take a s)) (take (b - a) (drop a s)) ≡ First =
        sym (run-append First (take a s) (take (b - a) (drop a s))) ∙ rw (← take-add, e) ((boundary b).0 q) in
        of-first (take (b - a) (drop a s)) (rw ((boundary a).0 p) at r)
    | no h ↦
        let k = lt_of_not-le h in
        let e : b - a ≡ 0 = omega arith in
        rw e empty
  ]

-- ---- an ASCII byte is a character of its own

ascii-starts : (b : ℕ) → b < 0x80 → is_continuation b ≡ false
ascii-starts b h = rw (lt-leb 0x80 b h)

module _ (d : Due) (b : ℕ) (t : List ℕ) (p : T (is_sound d)) (k : b < 0x80) (h : T (is_whole (run d (b ∷ t)))) where
  before_ascii : d ≡ First
  before_ascii = due-first d b t p h (ascii-starts b k)

  behind-ascii : T (is_whole (run First t))
  behind-ascii = rw (before_ascii, ← ascii-due b k) at h

-- in its place may stand any valid text, none too
pub replaced : (s : List ℕ) (b : ℕ) (u t : List ℕ) → T (is_utf8 (s ++ b ∷ t)) → b < 0x80 → T (is_utf8 u) → T (is_utf8 (s ++ u ++ t))
unfolding is_utf8
replaced s b u t v k w =
    let h : T (is_whole (run (run First s) (b ∷ t))) = rw run-append at v in
    let p = sound-run First s tt in
    joined (s ++ u) t (joined s u (of-first s (before_ascii (run First s) b t p k h)) w) (behind-ascii (run First s) b t p k h)

module _ (f : ℕ → List ℕ) (ascii : (b : ℕ) → b < 0x80 → T (is_utf8 (f b))) (other : (b : ℕ) → 0x80 ≤ b → f b ≡ b ∷ []) where
  each_from : (d : Due) (s : List ℕ) → T (is_sound d) → T (is_whole (run d s)) → T (is_whole (run d (each f s)))
  each_from d [] p h = h
  each_from d (b ∷ s) p h = elim (dec_le 0x80 b) [
    | yes k ↦ rw (other b k) (each_from (next d b) s (sound-next d b p) h)
    | no k ↦
        let l = lt_of_not-le k in
        rw (run-append, before_ascii d b s p l h, to-first (f b) (ascii b l)) (each_from First s tt (behind-ascii d b s p l h))
  ]

  -- each ASCII byte made a valid text, and every other kept
  pub each-valid : (s : List ℕ) → T (is_utf8 s) → T (is_utf8 (each f s))
  unfolding is_utf8
  each-valid s v = each_from First s tt v

pub ascii-valid : (s : List ℕ) → T (all is_ascii s) → T (is_utf8 s)
ascii-valid [] h = empty
ascii-valid (b ∷ s) h =
    let k = ltb→lt b 0x80 (and_left (is_ascii b) (all is_ascii s) h) in
    of-first (b ∷ s) (rw (← ascii-due b k) (to-first s (ascii-valid s (and_right (is_ascii b) (all is_ascii s) h))))

-- ---- how large the bytes are

low_byte : (d : Due) (b : ℕ) (t : List ℕ) → T (is_sound d) → T (is_whole (run d (b ∷ t))) → b ≤ 0xF4
low_byte First b t p h = elim (dec_le b 0xF4) [ yes k ↦ k | no k ↦ absurd (never-whole t (rw (high-wrong b (lt_of_not-le k)) h)) ]
low_byte (More left lo hi) b t p h = let k = to 0x80 0xBF b (continues left lo hi b t p h) in omega arith
low_byte Wrong b t p h = absurd (never-whole t h)

low-bytes : (d : Due) (s : List ℕ) → T (is_sound d) → T (is_whole (run d s)) → (k : ℕ) → get_or s k 0 ≤ 0xF4
low-bytes d [] p h k = omega arith
low-bytes d (b ∷ s) p h zero = low_byte d b s p h
low-bytes d (b ∷ s) p h (suc k) = low-bytes (next d b) s (sound-next d b p) h k

pub at-most-F4 : (s : List ℕ) → T (is_utf8 s) → (k : ℕ) → get_or s k 0 ≤ 0xF4
unfolding is_utf8
at-most-F4 s v k = low-bytes First s tt v k

-- ---- places that are inside no character

pub outside-start : (s : List ℕ) → T (is_utf8 s) → inside s 0 ≡ false
outside-start s v = (boundary s v 0).1 refl

pub outside-end : (s : List ℕ) → inside s (length s) ≡ false
unfolding inside
outside-end s = rw (le-ltb (length s) (length s) (omega arith))

pub outside-ascii : (s : List ℕ) (i : ℕ) → i < length s → get_or s i 0 < 0x80 → inside s i ≡ false
unfolding inside
outside-ascii s i h k = rw (lt-ltb i (length s) h) (ascii-starts (get_or s i 0) k)

pub outside-behind-ascii : (s : List ℕ) → T (is_utf8 s) → (i : ℕ) → i < length s → get_or s i 0 < 0x80 → inside s (i + 1) ≡ false
outside-behind-ascii s v i h k =
    let e : run First (take i s ++ get_or s i 0 ∷ []) ≡ First =
    run-append First (take i s) (get_or s i 0 ∷ []) ∙ rw ((boundary s v i).0 (outside-ascii s i h k)) (sym (ascii-due (get_or s i 0) k)) in
    (boundary s v (i + 1)).1 (rw (add-one, take-suc s i 0 h) e)
