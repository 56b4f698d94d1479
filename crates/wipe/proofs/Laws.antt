-- When a buffer is zero: no byte of it is set, or part after part was cleared. Assumes nothing.
use Rattle.std.proofs.Common.{◌≡◌, refl, sym, ap, ◌∙◌, Bool, true, false, not, ◌||◌, List, [], ◌∷◌, ◌++◌, append_assoc, ℕ, zero, suc, ◌+◌, ◌-◌, ◌*◌, ◌/◌, ◌≤◌, ◌<◌, arith, ne_eqb, bit_or, length, take, drop, get_or, length-append, length-take, length-drop, drop_of_length-le, take_at}
use Rattle.std.proofs.Math.Bool.{or_assoc, or-false}
use Rattle.std.proofs.Math.Arith.{bin_ind}
use lib.Bits.{or_step}
use Rattle.std.proofs.Math.ListN.{length-replicate, replicate-append-replicate}
use Rattle.lent.specs.Bytes.{any}
use Rattle.lent.specs.Fill.{zeros}
use Rattle.lent.proofs.Laws.{next}
use Rattle.wipe.specs.Set.{is_set}

-- ---- bytes that are not zero

or-least : (a b : ℕ) → a ≤ bit_or a b
or-least = bin_ind (λ (a : ℕ). (b : ℕ) → a ≤ bit_or a b) (λ b. omega arith) (λ a ih b. omega (arith, ih (b / 2), or_step a b))

set-or : (a b : ℕ) → is_set (bit_or a b) ≡ (is_set a || is_set b)
set-or zero b = refl
set-or (suc a) b = rw (ne_eqb (bit_or (suc a) b) 0 (λ e. let h = or-least (suc a) b in omega arith), ne_eqb (suc a) 0 (λ e. omega arith))

pub set_more : (s : List ℕ) (i x : ℕ) (w : Bool) → i < length s → (is_set x || any is_set (drop i s)) ≡ w → (is_set (bit_or x (get_or s i 0)) || any is_set (drop (i + 1) s)) ≡ w
set_more s i x w h p = rw (set-or x (get_or s i 0)) (or_assoc (is_set x) (is_set (get_or s i 0)) (any is_set (drop (i + 1) s)) ∙ (rw (next s i h) at p))

pub set-end : (s : List ℕ) (i x : ℕ) (w : Bool) → length s ≤ i → (is_set x || any is_set (drop i s)) ≡ w → is_set x ≡ w
set-end s i x w h p = sym (or-false (is_set x)) ∙ (rw (drop_of_length-le s h) at p)

none-set : (s : List ℕ) → any is_set s ≡ false → s ≡ zeros (length s)
none-set [] p = refl
none-set (zero ∷ s) p = ap (λ (l : List ℕ). 0 ∷ l) (none-set s p)
none-set (suc b ∷ s) p =
    let q = rw (ne_eqb (suc b) 0 (λ e. omega arith)) at p in
    let z : ◌≡◌ {A = ℕ} 0 1 = cc in
    absurd (omega arith)

pub still-zero : (s : List ℕ) (x : Bool) → x ≡ any is_set s → not x ≡ true → s ≡ zeros (length s)
still-zero s true p q = let z : ◌≡◌ {A = ℕ} 0 1 = cc in absurd (omega arith)
still-zero s false p q = none-set s (sym p)

-- zeros up to the place of a part, and in the part; and up to the end
pub wiped-more : (d m rest : List ℕ) (k n : ℕ) → n * k + n ≤ length d → take (n * k) d ≡ zeros (n * k) → m ≡ zeros (length (take (n * k + n - n * k) (drop (n * k) d))) → take (n * (k + 1)) (take (n * k) d ++ (m ++ rest)) ≡ zeros (n * (k + 1))
wiped-more d m rest k n h p q =
    let e : n * (k + 1) ≡ n * k + n = omega arith in
    let s : length (take (n * k + n - n * k) (drop (n * k) d)) ≡ n = simp (length-take, length-drop) (omega arith) in
    let l : length (zeros (n * k) ++ zeros n) ≡ n * k + n = simp (length-append, length-replicate) in
    rw (e, p, q, s, ← append_assoc (zeros (n * k)) (zeros n) rest) (take_at (zeros (n * k) ++ zeros n) rest (n * k + n) l ∙ replicate-append-replicate (n * k) n 0)

pub wiped-end : (d₀ d e : List ℕ) (i : ℕ) → i ≤ length d → length d ≡ length d₀ → take i d ≡ zeros i → e ≡ take i d ++ zeros (length d - i) → e ≡ zeros (length d₀)
wiped-end d₀ d e i h l p q =
    let k : i + (length d - i) ≡ length d₀ = omega arith in
    q ∙ rw p (replicate-append-replicate i (length d - i) 0 ∙ rw k)
