-- The laws of the search by halving: what is left of the table has the name, if any. Assumes nothing.
use Rattle.std.proofs.Common.{Ordering, Less, Equal, Greater, Some, None, ◌≡◌, refl, sym, ◌∙◌, ⊎_elim, Bool, true, false, List, [], ◌∷◌, ℕ, suc, ◌+◌, ◌-◌, ◌/◌, ◌<◌, ◌≤◌, eq-or-lt_of_le, arith, ltb-true, ltb-false, ltb, length, get_or}
use Rattle.lent.specs.Bytes.{same}
use Rattle.character_reference.specs.Reference.{lookup}
use Rattle.character_reference.specs.Table.{order_of, is_ascending, name_at, Lies, unpacked_from, is_packed_from}
use Rattle.character_reference.proofs.Ascent.{lies, ascending}
use Rattle.character_reference.proofs.Compared.{is_same, told, other_way, before-trans, equal}

-- ---- what a name is found to be

module _ (packed starts s : List ℕ) where
  lookup-none : (codes : List ℕ) (k : ℕ) → ((j : ℕ) → k ≤ j → j < k + length codes → same s (name_at packed starts j) ≡ false) → lookup (unpacked_from packed starts k codes) s ≡ None
  unfolding lookup unpacked_from
  lookup-none [] k none = refl
  lookup-none (code ∷ codes) k none = rw (none k (omega arith) (omega arith)) (lookup-none codes (k + 1) (λ j h l. none j (omega arith) (omega arith)))

  lookup-at : (codes : List ℕ) (k m : ℕ) → k ≤ m → m < k + length codes → same s (name_at packed starts m) ≡ true
      → ((j : ℕ) → k ≤ j → j < m → same s (name_at packed starts j) ≡ false) → lookup (unpacked_from packed starts k codes) s ≡ Some (get_or codes (m - k) 0)
  unfolding lookup unpacked_from
  lookup-at [] k m h l p none = absurd (omega arith)
  lookup-at (code ∷ codes) k m h l p none =
      ⊎_elim
      (λ e. let q : same s (name_at packed starts k) ≡ true = rw e p in let z : m - k ≡ 0 = omega arith in rw (q, z))
      (λ n. let q : same s (name_at packed starts k) ≡ false = none k (omega arith) n in
      let z : m - k ≡ suc (m - (k + 1)) = omega arith in
      rw (q, z) (lookup-at codes (k + 1) m (omega arith) (omega arith) p (λ j h l. none j (omega arith) l)))
      (eq-or-lt_of_le h)

-- the name can only be one of those from low up to high
pub record Between (packed starts codes s : List ℕ) (low high : ℕ) : Type 0 where
  pub ordered : low ≤ high
  pub inside : high ≤ length codes
  pub behind : (j : ℕ) → j < low → order_of s (name_at packed starts j) ≡ Greater
  pub before : (j : ℕ) → high ≤ j → j < length codes → order_of s (name_at packed starts j) ≡ Less

module _ (packed starts codes s : List ℕ) where
  pub whole : Between packed starts codes s 0 (length codes)
  whole = record { ordered = omega arith; inside = omega arith; behind = λ j h. absurd (omega arith); before = λ j h l. absurd (omega arith) }

  other : (o : Ordering) (j : ℕ) → order_of s (name_at packed starts j) ≡ o → is_same o ≡ false → same s (name_at packed starts j) ≡ false
  other o j e p = told s (name_at packed starts j) ∙ rw e p

  pub gone : (low high : ℕ) → Between packed starts codes s low high → high ≤ low → None ≡ lookup (unpacked_from packed starts 0 codes) s
  gone low high b h = sym (lookup-none packed starts s codes 0 none)
    where
      none : (j : ℕ) → 0 ≤ j → j < 0 + length codes → same s (name_at packed starts j) ≡ false
      none j z l = go (ltb j low) refl
        where
          go : (t : Bool) → ltb j low ≡ t → same s (name_at packed starts j) ≡ false
          go true e = other Greater j (b.behind j (ltb-true j low e)) refl
          go false e = other Less j (b.before j (omega (arith, ltb-false j low e)) (omega arith)) refl

  module _ (up : is_ascending (unpacked_from packed starts 0 codes) ≡ true) (k : ℕ) (l : k < length codes) (x : Ordering) (e : x ≡ order_of s (name_at packed starts k)) where
    -- all names up to k come before s, or all from k on behind it; or it is the name k
    passed : x ≡ Greater → (j : ℕ) → j < k + 1 → order_of s (name_at packed starts j) ≡ Greater
    passed p j h =
        ⊎_elim (λ q. rw q (sym e ∙ p))
        (λ n. other_way (name_at packed starts j) s
        ∙ rw (before-trans (name_at packed starts j) (name_at packed starts k) s (ascending packed starts codes up j k n l) (other_way s (name_at packed starts k) ∙ rw (← e, p))))
        (eq-or-lt_of_le (omega arith))

    ahead : x ≡ Less → (j : ℕ) → k ≤ j → j < length codes → order_of s (name_at packed starts j) ≡ Less
    ahead p j h m =
        ⊎_elim (λ q. rw (← q) (sym e ∙ p))
        (λ n. before-trans s (name_at packed starts k) (name_at packed starts j) (sym e ∙ p) (ascending packed starts codes up k j n m))
        (eq-or-lt_of_le h)

    is-it : x ≡ Equal → Some (get_or codes k 0) ≡ lookup (unpacked_from packed starts 0 codes) s
    is-it p = let z : k - 0 ≡ k = omega arith in sym (rw z at (lookup-at packed starts s codes 0 k (omega arith) (omega arith) (told s (name_at packed starts k) ∙ rw (← e, p)) none))
      where
        none : (j : ℕ) → 0 ≤ j → j < k → same s (name_at packed starts j) ≡ false
        none j z n =
            other Greater j
            (other_way (name_at packed starts j) s ∙ rw (equal s (name_at packed starts k) (sym e ∙ p), ascending packed starts codes up j k n l)) refl

-- ---- a step of the search

abbrev pub middle : ℕ → ℕ → ℕ
middle low high = low + (high - low) / 2

pub below-high : (low high : ℕ) → low < high → middle low high < high
below-high low high h = omega arith

module _ (packed starts codes s : List ℕ) (low high : ℕ) (b : Between packed starts codes s low high) (h : low < high) where
  pub in_table : middle low high < length codes
  in_table = omega (arith, below-high low high h, b.inside)

  pub there : is_packed_from packed starts 0 codes ≡ true → Lies packed starts (middle low high)
  there fair = lies packed starts codes (middle low high) fair in_table

  module _ (up : is_ascending (unpacked_from packed starts 0 codes) ≡ true) (x : Ordering) (e : x ≡ order_of s (name_at packed starts (middle low high))) where
    pub found : x ≡ Equal → Some (get_or codes (middle low high) 0) ≡ lookup (unpacked_from packed starts 0 codes) s
    found p = is-it packed starts codes s up (middle low high) in_table x e p

    pub lower : x ≡ Less → Between packed starts codes s low (middle low high)
    lower p = record { ordered = omega arith; inside = omega (arith, in_table); behind = b.behind; before = ahead packed starts codes s up (middle low high) in_table x e p }

    pub higher : x ≡ Greater → Between packed starts codes s (middle low high + 1) high
    higher p = record { ordered = omega (arith, below-high low high h); inside = b.inside; behind = passed packed starts codes s up (middle low high) in_table x e p; before = b.before }
