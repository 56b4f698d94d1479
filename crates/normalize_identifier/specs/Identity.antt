-- Label identity (RULES R6.1): one space for each run of blanks and none at the ends, ASCII letters as capitals, all else as it stands. Assumes nothing.
use Rattle.std.specs.Prelude.{◌≡◌, Bool, true, false, List, [], ◌∷◌, ℕ, suc, ◌<◌, ◌≤◌, length, drop, if◌then◌else◌, Option, Some, None}
use Rattle.lent.specs.Bytes.{one_of, upper}
use Rattle.normalize_identifier.specs.declared.Cursor.{Cursor}

-- tab, LF, CR and space
unfoldable pub blank : ℕ → Bool
blank b = one_of (9 ∷ 10 ∷ 13 ∷ 32 ∷ []) b

-- what one character becomes: an ASCII letter its capital, any other itself
unfoldable pub folded : ℕ → ℕ
folded b = upper b

-- the identity from here on: begun says that a byte was written before, gap that blanks were passed since, for which one space is due
unfoldable pub identity_from : Bool → Bool → List ℕ → List ℕ
identity_from begun gap [] = []
identity_from begun gap (b ∷ bs) =
    if blank b then identity_from begun begun bs
    else (if gap then 32 ∷ folded b ∷ identity_from true false bs
    else folded b ∷ identity_from true false bs)

unfoldable pub identity_of : List ℕ → List ℕ
identity_of label = identity_from false false label

-- how many blanks stand first
unfoldable pub blanks : List ℕ → ℕ
blanks [] = 0
blanks (b ∷ bs) = if blank b then suc (blanks bs) else 0

abbrev pub at_start : Cursor
at_start = record { at = 0; begun = false }

-- what is left of a label's identity at a cursor
unfoldable pub left_at : List ℕ → Cursor → List ℕ
left_at label c = identity_from c.begun false (drop c.at label)

-- the bytes that an answer of `next` stands for
unfoldable pub spelled : List ℕ → Option (ℕ × Cursor) → List ℕ
spelled label (Some (b, d)) = b ∷ left_at label d
spelled label None = []

-- the cursor of an answer stands further on, and in the label
abbrev pub Forward : List ℕ → Cursor → Option (ℕ × Cursor) → Type 0
Forward label c (Some (b, d)) = (c.at < d.at) × (d.at ≤ length label)
Forward label c None = Unit

-- what is left at c is what the answer n stands for
pub record Spells (label : List ℕ) (c : Cursor) (n : Option (ℕ × Cursor)) : Type 0 where
  pub left : left_at label c ≡ spelled label n
  pub forward : Forward label c n
