-- Why one step of a cursor is right: blanks skipped, then the end, a space or a byte. Assumes nothing.
use Rattle.std.proofs.Common.{◌≡◌, refl, sym, ◌∙◌, Bool, true, false, ◌&&◌, List, [], ◌∷◌, ℕ, zero, suc, ◌+◌, ◌<◌, ◌≤◌, arith, ltb, length, get_or, drop, drop_of_length-le, length-drop, drop-drop, get_or-drop, lt-ltb, le-ltb, ◌⊎◌, inl, inr, max, Some, None}
use mathlib.Core.Bool.{and-true, and-false}
use Rattle.lent.proofs.Laws.{next}
use Rattle.normalize_identifier.specs.declared.Cursor.{Cursor}
use Rattle.normalize_identifier.specs.Identity.{blank, blanks, folded, identity_from, left_at, spelled, Spells}
use Rattle.normalize_identifier.proofs.Laws.{at-blank, at_byte, at_gap, at-end}

-- ---- blanks skipped

module _ (b : ℕ) (bs : List ℕ) where
  blanks-more : blank b ≡ true → blanks (b ∷ bs) ≡ suc (blanks bs)
  unfolding blanks
  blanks-more p = rw p

  blanks-none : blank b ≡ false → blanks (b ∷ bs) ≡ 0
  unfolding blanks
  blanks-none p = rw p

-- the code's turns: a blank passed, a byte that is none, the end
module _ (l : List ℕ) (i n : ℕ) (e : i + blanks (drop i l) ≡ n) where
  pub skip-more : (t : Bool) → i < length l → t ≡ blank (get_or l i 0) → t ≡ true → i + 1 + blanks (drop (i + 1) l) ≡ n
  skip-more t h q p =
      let m : blanks (drop i l) ≡ suc (blanks (drop (i + 1) l)) = rw (next l i h) (blanks-more _ _ (sym q ∙ p)) in
      omega arith

  pub skip-byte : (t : Bool) → i < length l → t ≡ blank (get_or l i 0) → t ≡ false → i ≡ n
  skip-byte t h q p =
      let m : blanks (drop i l) ≡ 0 = rw (next l i h) (blanks-none _ _ (sym q ∙ p)) in
      omega arith

  pub skip-end : length l ≤ i → i ≡ n
  unfolding blanks
  skip-end h =
      let m : blanks (drop i l) ≡ 0 = rw (drop_of_length-le l h) in
      omega arith

-- the end of the search, whether it began in the label or behind it
pub skip_out : (l : List ℕ) (from i m : ℕ) → i + blanks (drop i l) ≡ from + blanks (drop from l) → length l ≤ i → (from ≤ length l → i ≤ length l) → m ≡ max from (length l) → m ≡ from + blanks (drop from l)
skip_out l from i m e h k q = grind (arith, skip-end l i (from + blanks (drop from l)) e h, skip-end l from (from + blanks (drop from l)) refl)

-- whether a space is due behind n blanks
due : Bool → Bool → ℕ → Bool
due x y zero = y
due x y (suc n) = x

due-same : (x : Bool) (n : ℕ) → due x x n ≡ x
unfolding due
due-same x zero = refl
due-same x (suc n) = refl

due-code : (x : Bool) (from n : ℕ) → due x false n ≡ (x && ltb from (from + n))
unfolding due
due-code x from zero = rw (le-ltb from (from + 0) (omega arith)) (sym (and-false x))
due-code x from (suc n) = rw (lt-ltb from (from + suc n) (omega arith)) (sym (and-true x))

-- the identity behind the blanks
passed : (x y : Bool) (l : List ℕ) → identity_from x y l ≡ identity_from x (due x y (blanks l)) (drop (blanks l) l)
unfolding blanks due
passed x y [] = at-end x y ∙ sym (at-end x y)
passed x y (b ∷ bs) = go (blank b) refl (passed x x bs ∙ rw due-same)
  where
    go : (t : Bool) → blank b ≡ t → identity_from x x bs ≡ identity_from x x (drop (blanks bs) bs) → identity_from x y (b ∷ bs) ≡ identity_from x (due x y (blanks (b ∷ bs))) (drop (blanks (b ∷ bs)) (b ∷ bs))
    go true p ih = rw (blanks-more b bs p) (at-blank b bs x y p ∙ ih)
    go false p ih = rw (blanks-none b bs p)

-- the byte behind the blanks is none
stopped : (l : List ℕ) → blanks l < length l → blank (get_or l (blanks l) 0) ≡ false
stopped [] h = absurd (omega arith)
stopped (b ∷ bs) h = go (blank b) refl (stopped bs)
  where
    go : (t : Bool) → blank b ≡ t → (blanks bs < length bs → blank (get_or bs (blanks bs) 0) ≡ false) → blank (get_or (b ∷ bs) (blanks (b ∷ bs)) 0) ≡ false
    go true p ih = rw (blanks-more b bs p) (ih (omega (arith, blanks-more b bs p)))
    go false p ih = rw (blanks-none b bs p) p

-- ---- one step of a cursor: the end, a space, a byte

module _ (label : List ℕ) (c : Cursor) (at : ℕ) (q : at ≡ c.at + blanks (drop c.at label)) where
  left_behind : left_at label c ≡ identity_from c.begun (c.begun && ltb c.at at) (drop at label)
  unfolding left_at
  left_behind = rw (q, ← due-code c.begun c.at, ← drop-drop) (passed c.begun false (drop c.at label))

  pub step_end : length label ≤ at → Spells label c None
  unfolding spelled
  step_end h = record { left = left_behind ∙ rw (drop_of_length-le label h) (at-end _ _); forward = tt }

  kept : at < length label → blank (get_or label at 0) ≡ false
  kept h =
      let l = length-drop c.at label in
      rw (q, ← get_or-drop c.at label) (stopped (drop c.at label) (omega arith))

  pub step-space : at < length label → c.begun ≡ true → c.at < at → Spells label c (Some (32, record { at = at; begun = true }))
  unfolding spelled left_at
  step-space h p l =
      record {
        left = left_behind ∙ rw (p, lt-ltb c.at at l, next label at h) (at_gap _ _ true true (kept h));
        forward = (l, omega arith);
      }

  -- no space is due
  tight : (c.begun ≡ true × (at ≤ c.at)) ⊎ (c.begun ≡ false) → (c.begun && ltb c.at at) ≡ false
  tight (inl p) = rw (p.0, le-ltb c.at at p.1)
  tight (inr p) = rw p

  pub step-byte : (b : ℕ) → at < length label → (c.begun ≡ true × (at ≤ c.at)) ⊎ (c.begun ≡ false) → b ≡ folded (get_or label at 0) → Spells label c (Some (b, record { at = at + 1; begun = true }))
  unfolding spelled left_at
  step-byte b h g f =
      record {
        left = left_behind ∙ rw (tight g, next label at h, f) (at_byte _ _ c.begun (kept h));
        forward = (omega arith, omega arith);
      }
