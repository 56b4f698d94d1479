-- The names option: what it changes, and that it never decides whether a value is a reference. Assumes nothing.
use Rattle.std.proofs.Common.{Option, Some, ◌≡◌, refl, sym, ap, Bool, true, false, List, ℕ}
use Rattle.lent.specs.Bytes.{bytes, same}
use Rattle.character_reference.specs.declared.Names.{Names}
use Rattle.character_reference.specs.declared.Names.TheVariants.{Html4, Html5}
use Rattle.character_reference.specs.declared.Marker.{Marker}
use Rattle.character_reference.specs.declared.Marker.TheVariants.{Named, Decimal, Hexadecimal}
use Rattle.character_reference.specs.Names.{names}
use Rattle.character_reference.specs.Reference.{lookup, names_of, named_of, value_of, stands_for, reference_of, reference_for, is_some}
use Rattle.lent.proofs.Same.{same-equal}

-- ---- with 4: two names, then the table

module _ (s : List ℕ) (x : Bool) where
  pub is-lang : x ≡ same s (bytes "lang") → x ≡ true → Some 0x2329 ≡ named_of Html4 s
  unfolding named_of names_of lookup
  is-lang e h = rw (← e, h)

  module _ (e : x ≡ same s (bytes "lang")) (h : x ≡ false) (y : Bool) (f : y ≡ same s (bytes "rang")) where
    pub is-rang : y ≡ true → Some 0x232A ≡ named_of Html4 s
    unfolding named_of names_of lookup
    is-rang k = rw (← e, h, ← f, k)

    pub as-newer : y ≡ false → (v : Option ℕ) → v ≡ named_of Html5 s → v ≡ named_of Html4 s
    unfolding named_of names_of lookup
    as-newer k v p = rw (← e, h, ← f, k) p

module _ (option : Names) (s : List ℕ) (v : Option ℕ) where
  pub by_4 : option ≡ Html4 → v ≡ named_of Html4 s → v ≡ named_of option s
  by_4 o e = rw (o, e)

  pub by-5 : option ≡ Html5 → v ≡ named_of Html5 s → v ≡ named_of option s
  by-5 o e = rw (o, e)

-- ---- whether a value is one is the same with both options

named-by-both : (s : List ℕ) → is_some (stands_for (named_of Html4 s)) ≡ is_some (stands_for (named_of Html5 s))
unfolding named_of names_of lookup names
named-by-both s = go (same s (bytes "lang")) (same s (bytes "rang")) refl refl
  where
    go : (a b : Bool) → same s (bytes "lang") ≡ a → same s (bytes "rang") ≡ b → is_some (stands_for (named_of Html4 s)) ≡ is_some (stands_for (named_of Html5 s))
    go true b e f = rw (same-equal s (bytes "lang") e)
    go false true e f = rw (same-equal s (bytes "rang") f)
    go false false e f = ap (λ (v : Option ℕ). is_some (stands_for v)) (sym (as-newer s false (sym e) refl false (sym f) refl (named_of Html5 s) refl))

pub by_both : (option : Names) (marker : Marker) (s : List ℕ) → is_some (reference_for option marker s) ≡ is_some (reference_of marker s)
unfolding reference_for value_of
by_both Html4 Named s = named-by-both s
by_both Html4 Decimal s = refl
by_both Html4 Hexadecimal s = refl
by_both Html5 marker s = refl
