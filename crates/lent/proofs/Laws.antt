-- The laws of filling: what callers of `lent` go by. Assumes nothing.
use Rattle.std.proofs.Common.{◌≡◌, refl, sym, ap, ap₂, ◌∙◌, Bool, true, false, ◌&&◌, ◌||◌, List, [], ◌∷◌, ◌++◌, append-nil, append_assoc, ℕ, zero, suc, ◌+◌, ◌-◌, ◌≤◌, ◌<◌, suc-add, zero-add, arith, add-one, length, take, drop, set, get_or, length-append, length-set, length-take, length-drop, take-append-drop, drop-drop, drop-cons, take_all, take-suc, take-suc-set, take-take, take_at}
use Rattle.std.proofs.Math.Bool.{or_assoc, or-false}
use Rattle.std.proofs.Math.Seq.{append_snoc, take-length}
use Rattle.lent.specs.Fill.{fill, past, Filled, zeros}
use Rattle.lent.specs.Bytes.{any, each}

-- ---- fill, by the buffer's first byte

pub fill-empty : (at : ℕ) (s : List ℕ) → fill [] at s ≡ []
unfolding fill
fill-empty at s = refl

pub fill_suc : (x : ℕ) (d : List ℕ) (at : ℕ) (s : List ℕ) → fill (x ∷ d) (suc at) s ≡ x ∷ fill d at s
unfolding fill
fill_suc x d at s = rw suc-add

pub fill-zero : (x b : ℕ) (d s : List ℕ) → fill (x ∷ d) 0 (b ∷ s) ≡ b ∷ fill d 0 s
unfolding fill
fill-zero x b d s = simp zero-add

pub fill_none : (d : List ℕ) (at : ℕ) → fill d at [] ≡ d
unfolding fill
fill_none d at =
    let z : at + 0 ≡ at = omega arith in
    rw (z, append-nil, take-append-drop) (take-length d)

-- ---- fill and past, together

module _ (d : List ℕ) (at : ℕ) (s : List ℕ) where
  pub length-fill : length (fill d at s) ≡ length d
  unfolding fill
  length-fill = simp (length-take, length-append, length-drop) (omega arith)

  pub fill-out : length d ≤ at → fill d at s ≡ d
  unfolding fill
  fill-out h = rw (take_all at d h, append_assoc) (take_at d (s ++ drop (at + length s) d) (length d) refl)

  pub take-fill : at + length s ≤ length d → take (at + length s) (fill d at s) ≡ take at d ++ s
  unfolding fill
  take-fill h =
      let n : length (take at d ++ s) ≡ at + length s = simp (length-append, length-take) (omega arith) in
      take-take (at + length s) (length d) (take at d ++ s ++ drop (at + length s) d) h
      ∙ take_at (take at d ++ s) (drop (at + length s) d) (at + length s) n

-- what was appended first, and then more, is appended as one
pub fill-fill : (d : List ℕ) (at : ℕ) (s t : List ℕ) → fill (fill d at s) (past d at s) t ≡ fill d at (s ++ t)
fill-fill [] at s t = rw (fill-empty, fill-empty, fill-empty)
fill-fill (x ∷ d) zero [] t = let e : past (x ∷ d) 0 [] ≡ 0 = omega arith in rw (fill_none, e)
fill-fill (x ∷ d) zero (b ∷ s) t =
    let e : past (x ∷ d) 0 (b ∷ s) ≡ suc (past d 0 s) = omega arith in
    rw (fill-zero, e, fill_suc, fill-zero, fill-fill d 0 s t)
fill-fill (x ∷ d) (suc at) s t =
    let e : past (x ∷ d) (suc at) s ≡ suc (past d at s) = omega arith in
    rw (fill_suc, e, fill_suc, fill_suc, fill-fill d at s t)

pub fill_one : (d : List ℕ) (at b : ℕ) → at < length d → fill d at (b ∷ []) ≡ set d at b
fill_one [] at b h = absurd (omega arith)
fill_one (x ∷ d) zero b h = rw (fill-zero, fill_none)
fill_one (x ∷ d) (suc at) b h = rw (fill_suc, fill_one d at b (omega arith))

pub fill-cut : (d : List ℕ) (at n : ℕ) (s : List ℕ) → at + n ≡ length d → n ≤ length s → fill d at (take n s) ≡ fill d at s
fill-cut d at n s h k =
    let e : length d ≤ past d at (take n s) = simp length-take (omega arith) in
    sym (fill-out (fill d at (take n s)) (past d at (take n s)) (drop n s) (rw length-fill e))
    ∙ fill-fill d at (take n s) (drop n s)
    ∙ rw take-append-drop

-- a byte before the place stays, and all behind the text
pub byte-below : (d : List ℕ) (at : ℕ) (s : List ℕ) (k : ℕ) → k < at → get_or (fill d at s) k 0 ≡ get_or d k 0
byte-below [] at s k h = rw fill-empty
byte-below (x ∷ d) zero s k h = absurd (omega arith)
byte-below (x ∷ d) (suc at) s zero h = rw fill_suc
byte-below (x ∷ d) (suc at) s (suc k) h = rw fill_suc (byte-below d at s k (omega arith))

pub rest-behind : (d : List ℕ) (at : ℕ) (s : List ℕ) (k : ℕ) → at + length s ≤ k → drop k (fill d at s) ≡ drop k d
rest-behind [] at s k h = rw fill-empty
rest-behind (x ∷ d) zero [] k h = rw fill_none
rest-behind (x ∷ d) zero (b ∷ s) zero h = absurd (omega arith)
rest-behind (x ∷ d) zero (b ∷ s) (suc k) h = rw fill-zero (rest-behind d 0 s k (omega arith))
rest-behind (x ∷ d) (suc at) s zero h = absurd (omega arith)
rest-behind (x ∷ d) (suc at) s (suc k) h = rw fill_suc (rest-behind d at s k (omega arith))

-- what stands before the place stays; and what lies behind a start, or before an end, is filled by itself
pub front-before : (d : List ℕ) (at : ℕ) (s : List ℕ) (k : ℕ) → k ≤ at → take k (fill d at s) ≡ take k d
front-before [] at s k h = rw fill-empty
front-before (x ∷ d) at s zero h = refl
front-before (x ∷ d) zero s (suc k) h = absurd (omega arith)
front-before (x ∷ d) (suc at) s (suc k) h = rw fill_suc (ap (λ (l : List ℕ). x ∷ l) (front-before d at s k (omega arith)))

pub fill-behind : (k : ℕ) (d : List ℕ) (at : ℕ) (s : List ℕ) → drop k (fill d (k + at) s) ≡ fill (drop k d) at s
fill-behind zero d at s = simp zero-add
fill-behind (suc k) [] at s = rw (fill-empty, fill-empty)
fill-behind (suc k) (x ∷ d) at s = rw (suc-add, fill_suc) (fill-behind k d at s)

pub fill-before-end : (n : ℕ) (d : List ℕ) (at : ℕ) (s : List ℕ) → at + length s ≤ n → take n (fill d at s) ≡ fill (take n d) at s
fill-before-end zero d zero [] h = rw fill_none
fill-before-end zero d zero (b ∷ s) h = absurd (omega arith)
fill-before-end zero d (suc at) s h = absurd (omega arith)
fill-before-end (suc n) [] at s h = rw fill-empty
fill-before-end (suc n) (x ∷ d) zero [] h = rw (fill_none, fill_none)
fill-before-end (suc n) (x ∷ d) zero (b ∷ s) h = rw (fill-zero, fill-zero) (ap (λ (l : List ℕ). b ∷ l) (fill-before-end n d 0 s (omega arith)))
fill-before-end (suc n) (x ∷ d) (suc at) s h = rw (fill_suc, fill_suc) (ap (λ (l : List ℕ). x ∷ l) (fill-before-end n d at s (omega arith)))

-- ---- what a call of `lent` gives

-- nothing appended, and one run after another
pub none : (d : List ℕ) (at : ℕ) → Filled d at [] d at
none d at = record { bytes = sym (fill_none d at); place = omega arith }

pub both : {d e f : List ℕ} {at m r : ℕ} {s t : List ℕ} → Filled d at s e m → Filled e m t f r → Filled d at (s ++ t) f r
both {d} {e} {f} {at} {m} {r} {s} {t} p q =
    let l = ap length p.bytes ∙ length-fill d at s in
    let n = length-append s t in
    let p' = p.place in
    let q' = q.place in
    record {
      bytes = q.bytes ∙ ap₂ (λ (x : List ℕ) (k : ℕ). fill x k t) p.bytes p' ∙ fill-fill d at s t;
      place = omega arith;
    }

-- a run by another name
pub same : {d e s t : List ℕ} {at r : ℕ} → t ≡ s → Filled d at s e r → Filled d at t e r
same p h = rw p h

pub length-filled : {d e s : List ℕ} {at r : ℕ} → Filled d at s e r → length e ≡ length d
length-filled {d} {s = s} {at = at} p = ap length p.bytes ∙ length-fill d at s

-- ---- a loop that appends: to append s at the place at of d is all that is left of appending s₀ at the place at₀ of d₀

pub record Left (d₀ : List ℕ) (at₀ : ℕ) (s₀ : List ℕ) (d : List ℕ) (at : ℕ) (s : List ℕ) : Type 0 where
  pub rest : (e : List ℕ) (r : ℕ) → Filled d at s e r → Filled d₀ at₀ s₀ e r
  pub long : length d ≡ length d₀

pub all : {d s : List ℕ} {at : ℕ} → Left d at s d at s
all = record { rest = λ e r h. h; long = refl }

pub step : {d₀ d e : List ℕ} {at₀ at m : ℕ} {s₀ s t u : List ℕ} → u ≡ s ++ t → Left d₀ at₀ s₀ d at u → Filled d at s e m → Left d₀ at₀ s₀ e m t
step q left p = record { rest = λ f r h. left.rest f r (rw q (both p h)); long = length-filled p ∙ left.long }

pub done : {d₀ d : List ℕ} {at₀ at : ℕ} {s₀ u : List ℕ} → u ≡ [] → Left d₀ at₀ s₀ d at u → Filled d₀ at₀ s₀ d at
done {d = d} {at = at} q left = left.rest d at (rw q (none d at))

pub last : {d₀ d e : List ℕ} {at₀ at r : ℕ} {s₀ s : List ℕ} → Left d₀ at₀ s₀ d at s → Filled d at s e r → Filled d₀ at₀ s₀ e r
last {e = e} {r = r} left p = left.rest e r p

-- ---- lists, as a loop that counts by `i + 1` meets them

pub next : (l : List ℕ) (i : ℕ) → i < length l → drop i l ≡ get_or l i 0 ∷ drop (i + 1) l
next l i h = rw (add-one, drop-cons l i 0)

pub and_left : (a b : Bool) → (a && b) ≡ true → a ≡ true
and_left true b p = refl
and_left false b p = p

pub and_right : (a b : Bool) → (a && b) ≡ true → b ≡ true
and_right true b p = p
and_right false b p = let z : ◌≡◌ {A = ℕ} 0 1 = cc in absurd (omega arith)

-- a test of each of the n bytes from i on, one by one
module _ (f : ℕ → Bool) (l : List ℕ) (i n k : ℕ) where
  pub any-more : (x y w : Bool) → i + n ≤ length l → k < n → (x || any f (take (n - k) (drop (i + k) l))) ≡ w → y ≡ f (get_or l (i + k) 0)
      → ((x || y) || any f (take (n - (k + 1)) (drop (i + (k + 1)) l))) ≡ w
  any-more x y w h m p q =
      let a : i + k < length l = omega arith in
      let b : n - k ≡ suc (n - (k + 1)) = omega arith in
      let c : i + (k + 1) ≡ i + k + 1 = omega arith in
      rw c (or_assoc x y (any f (take (n - (k + 1)) (drop (i + k + 1) l))) ∙ (rw (b, next l (i + k) a, ← q) at p))

  pub any-end : (x w : Bool) → n ≤ k → (x || any f (take (n - k) (drop (i + k) l))) ≡ w → x ≡ w
  any-end x w h p = let e : n - k ≡ 0 = omega arith in sym (or-false x) ∙ (rw e at p)

pub any-start : (f : ℕ → Bool) (l : List ℕ) (i n : ℕ) → any f (take n (drop (i + 0) l)) ≡ any f (take n (drop i l))
any-start f l i n = let a : i + 0 ≡ i = omega arith in rw a

pub or_left : (a b : Bool) → (a || b) ≡ false → a ≡ false
or_left true b p = p
or_left false b p = refl

pub or_right : (a b : Bool) → (a || b) ≡ false → b ≡ false
or_right true b p = let z : ◌≡◌ {A = ℕ} 0 1 = cc in absurd (omega arith)
or_right false b p = p

pub each_append : (f : ℕ → List ℕ) (s t : List ℕ) → each f (s ++ t) ≡ each f s ++ each f t
each_append f [] t = refl
each_append f (b ∷ s) t = ap (λ (x : List ℕ). f b ++ x) (each_append f s t) ∙ sym (append_assoc (f b) (each f s) (each f t))

-- bytes that f leaves as they are
pub each-kept : (f : ℕ → List ℕ) (p : ℕ → Bool) → ((b : ℕ) → p b ≡ false → f b ≡ b ∷ []) → (s : List ℕ) → any p s ≡ false → each f s ≡ s
each-kept f p k [] h = refl
each-kept f p k (b ∷ s) h = rw (k b (or_left (p b) (any p s) h), each-kept f p k s (or_right (p b) (any p s) h))

-- ---- the code's own cases

module _ (d : List ℕ) (at b : ℕ) where
  pub put_in : at < length d → Filled d at (b ∷ []) (set d at b) (at + 1)
  put_in h = record { bytes = sym (fill_one d at b h); place = omega arith }

  pub put-out : length d < at → Filled d at (b ∷ []) d at
  put-out h = record { bytes = sym (fill-out d at (b ∷ []) (omega arith)); place = omega arith }

  pub put-end : length d ≤ at → at ≤ length d → Filled d at (b ∷ []) d (at + 1)
  put-end h k = record { bytes = sym (fill-out d at (b ∷ []) h); place = omega arith }

module _ (d : List ℕ) (at : ℕ) (s : List ℕ) where
  pub all-out : length d < at → Filled d at s d at
  all-out h = record { bytes = sym (fill-out d at s (omega arith)); place = omega arith }

  pub all_in : (e : List ℕ) → at ≤ length d → length s ≤ length d - at → e ≡ fill d at (take (length s) s) → Filled d at s e (at + length s)
  all_in e h k p = record { bytes = p ∙ rw take-length; place = omega arith }

  pub all-cut : (e : List ℕ) → at ≤ length d → length d - at < length s → e ≡ fill d at (take (length d - at) s) → Filled d at s e (length e + 1)
  all-cut e h k p =
      let l : length e ≡ length d = ap length p ∙ length-fill d at (take (length d - at) s) in
      record { bytes = p ∙ fill-cut d at (length d - at) s (omega arith) (omega arith); place = omega arith }

  pub copied : (e : List ℕ) (i n : ℕ) → i < n → n ≤ length s → at + n ≤ length d → e ≡ fill d at (take i s) → set e (at + i) (get_or s i 0) ≡ fill d at (take (i + 1) s)
  copied e i n h k m p =
      let l : length e ≡ length d = ap length p ∙ length-fill d at (take i s) in
      let n : length (take i s) ≡ i = simp length-take (omega arith) in
      let q : past d at (take i s) ≡ at + i = omega arith in
      let a : at + i < length e = omega arith in
      sym (fill_one e (at + i) (get_or s i 0) a)
      ∙ ap₂ (λ (x : List ℕ) (m : ℕ). fill x m (get_or s i 0 ∷ [])) p (sym q)
      ∙ fill-fill d at (take i s) (get_or s i 0 ∷ [])
      ∙ ap (fill d at) (sym (rw add-one (take-suc s i 0 (omega arith))))

  pub copy-none : d ≡ fill d at (take 0 s)
  copy-none = sym (fill_none d at)

  pub copy-end : (e : List ℕ) (i n : ℕ) → i ≤ n → n ≤ i → e ≡ fill d at (take i s) → e ≡ fill d at (take n s)
  copy-end e i n h k p = let q : i ≡ n = omega arith in rw q at p

-- zeros from i on are zeros from i + 1 on, and one at i
pub cleared : (d₀ d : List ℕ) (i₀ i : ℕ) → i < length d → take i d ++ zeros (length d - i) ≡ take i₀ d₀ ++ zeros (length d₀ - i₀)
    → take (i + 1) (set d i 0) ++ zeros (length (set d i 0) - (i + 1)) ≡ take i₀ d₀ ++ zeros (length d₀ - i₀)
cleared d₀ d i₀ i h p =
    let e : length d - i ≡ suc (length d - (i + 1)) = omega arith in
    rw (length-set, add-one, take-suc-set d i 0 h, ← add-one) (append_snoc (take i d) 0 (zeros (length d - (i + 1))) ∙ (rw e at p))

pub clear-end : (d₀ d : List ℕ) (i₀ i : ℕ) → length d ≤ i → take i d ++ zeros (length d - i) ≡ take i₀ d₀ ++ zeros (length d₀ - i₀)
    → d ≡ take i₀ d₀ ++ zeros (length d₀ - i₀)
clear-end d₀ d i₀ i h p =
    let e : length d - i ≡ 0 = omega arith in
    sym (append-nil d) ∙ (rw (take_all i d h, e) at p)
