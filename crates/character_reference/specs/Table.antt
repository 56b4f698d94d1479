-- How the code holds a table of names, and how it compares them: words of private functions alone. Assumes nothing.
use Rattle.std.specs.Prelude.{Bool, true, false, ◌&&◌, List, [], ◌∷◌, ℕ, ◌+◌, ◌-◌, ◌<◌, ◌≤◌, ltb, leb, length, get_or, take, drop, if◌then◌else◌}
use Rattle.std.specs.declared.cmp.Ordering.{Ordering}
use Rattle.std.specs.declared.cmp.Ordering.TheVariants.{Less, Equal, Greater}

-- ---- in which order

unfoldable pub order_of : List ℕ → List ℕ → Ordering
order_of [] [] = Equal
order_of [] (y ∷ t) = Less
order_of (x ∷ s) [] = Greater
order_of (x ∷ s) (y ∷ t) = if ltb x y then Less else (if ltb y x then Greater else order_of s t)

abbrev pub is_before : Ordering → Bool
is_before Less = true
is_before Equal = false
is_before Greater = false

-- each name comes before the next
unfoldable pub is_ascending : List (List ℕ × ℕ) → Bool
is_ascending [] = true
is_ascending (entry ∷ []) = true
is_ascending (entry ∷ next ∷ entries) = is_before (order_of entry.0 next.0) && is_ascending (next ∷ entries)

-- ---- packed

module _ (packed starts : List ℕ) where
  -- a name ends where the next one starts
  abbrev pub name_at : ℕ → List ℕ
  name_at k = take (get_or starts (k + 1) 0 - get_or starts k 0) (drop (get_or starts k 0) packed)

  -- it is there
  pub record Lies (k : ℕ) : Type 0 where
    pub start : k + 1 < length starts
    pub in_order : get_or starts k 0 ≤ get_or starts (k + 1) 0
    pub end : get_or starts (k + 1) 0 ≤ length packed

  -- the entries from k on
  unfoldable pub unpacked_from : ℕ → List ℕ → List (List ℕ × ℕ)
  unpacked_from k [] = []
  unpacked_from k (code ∷ codes) = (name_at k, code) ∷ unpacked_from (k + 1) codes

  -- the test of each name's place
  abbrev pub is_within : ℕ → Bool
  is_within k = leb (get_or starts k 0) (get_or starts (k + 1) 0) && leb (get_or starts (k + 1) 0) (length packed)

  -- from k on
  unfoldable pub is_packed_from : ℕ → List ℕ → Bool
  is_packed_from k [] = ltb k (length starts)
  is_packed_from k (code ∷ codes) = is_within k && is_packed_from (k + 1) codes
