-- The bytes of a character are valid, one law for every length. Assumes nothing.
use Rattle.std.proofs.Common.{◌≡◌, refl, sym, ap, ◌∙◌, Bool, List, ◌∷◌, ℕ, zero, suc, ◌+◌, ◌-◌, ◌/◌, ◌≤◌, ◌<◌, arith, le-ltb, eq-eqb, T}
use Rattle.std.proofs.Math.Bool.{beq}
use Rattle.lent.specs.Bytes.{between}
use Rattle.utf8.specs.declared.Due.{Due}
use Rattle.utf8.specs.declared.Due.TheVariants.{First, More}
use Rattle.utf8.specs.Table.{after_first, after_more, next}
use Rattle.utf8.specs.Utf8.{run, is_utf8, is_scalar, tail, char_of, replacement}
use Rattle.lent.proofs.Computed.{is_true, within, all_below, computed, agree}
use Rattle.utf8.proofs.Table.{ascii-due, lead, same_due, same-due}
use Rattle.utf8.proofs.Laws.{of-first}
use Rattle.utf8.proofs.Codes.{above, tails, spelled, shifted, above-shifted, has_tails, Tailed, low, high, counted, same_head, head-low}

-- ---- the first two bytes of a character

-- n tails are due
abbrev pub due : ℕ → Due
due zero = First
due (suc n) = More (suc n) 0x80 0xBF

pub tail-due : (n : ℕ) → after_more (suc n) ≡ due n
tail-due zero = refl
tail-due (suc n) =
    let e : suc (suc n) - 1 ≡ suc n = omega arith in
    rw (le-ltb (suc (suc n)) 2 (omega arith), e)

abbrev leaves : ℕ → ℕ → Bool
leaves n h = same_due (next (after_first (lead (suc n) + h / 64)) (tail h)) (due n)

-- the table of section 4 is that of section 3: two bytes leave n tails due exactly where they are those of a code
heads : (n h : ℕ) → n < 3 → h < 0x800 → leaves n h ≡ has_tails (suc n) (shifted n h)
unfolding after_first same_due
heads n h l k =
    agree (leaves n) (λ h. has_tails (suc n) (shifted n h)) 0x800 (computed (λ n. all_below 0x800 (λ h. beq (leaves n h) (has_tails (suc n) (shifted n h)))) 3 tt n l) h k

alike : (n : ℕ) → T (same_due (due n) (due n))
unfolding same_due
alike zero = tt
alike (suc n) = rw (eq-eqb (suc n) (suc n) refl) tt

module _ (n c : ℕ) (l : n < 3) where
  abbrev Leaves : Type 0
  Leaves = next (after_first (lead (suc n) + above n c / 64)) (tail (above n c)) ≡ due n

  pub head-leaves : Tailed (suc n) c → Leaves
  head-leaves t =
      let e = above-shifted n (above n c) in
      same-due _ _ (rw (heads n (above n c) l (head-low n c l t)) (same_head n c (shifted n (above n c)) l (sym e) t))

  pub leaves-head : above n c < 0x800 → Leaves → Tailed (suc n) c
  leaves-head h p =
      let e = above-shifted n (above n c) in
      same_head n (shifted n (above n c)) c l e (rw (← heads n (above n c) l h, p) (alike n))

-- ---- each is valid

goes : (left lo hi b : ℕ) (t : List ℕ) → lo ≤ b → b ≤ hi → run (More left lo hi) (b ∷ t) ≡ run (after_more left) t
goes left lo hi b t h k = rw (is_true (between lo hi b) (within lo hi b h k))

run-tails : (n c : ℕ) → run (due n) (tails n c) ≡ First
run-tails zero c = refl
run-tails (suc n) c = goes (suc n) 0x80 0xBF (tail (above n c)) (tails n c) (omega arith) (omega arith) ∙ rw (tail-due n) (run-tails n c)

valid : (n c : ℕ) → n ≤ 3 → Tailed n c → run First ((lead n + above n c) ∷ tails n c) ≡ First
valid zero c l t = let e : 0 + c ≡ c = omega arith in rw e (sym (ascii-due c (high 0 c t)))
valid (suc n) c l t = ap (λ (d : Due). run d (tails n c)) (head-leaves n c (omega arith) t) ∙ run-tails n c

pub char-valid : (c : ℕ) → T (is_scalar c) → T (is_utf8 (char_of c))
char-valid c t = let x = counted c t in of-first (char_of c) (rw (spelled x.0 c x.1 (low x.0 c x.2) (high x.0 c x.2)) (valid x.0 c x.1 x.2))

pub replacement-valid : T (is_utf8 replacement)
unfolding is_utf8 after_first
replacement-valid = tt
