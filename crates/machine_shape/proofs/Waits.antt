-- Commands that set what waits, or the table. Assumes nothing.
use mathlib.Core.Path.{◌≡◌, refl, sym}
use mathlib.Core.Bool.{Bool, false, not}
use mathlib.Core.List.{List, [], ◌∷◌}
use mathlib.Core.Option.{Option, none, some}
use Prim.Native.Nat.{ℕ, zero, suc, ◌<◌}
use native.Mathlib.Omega.{arith}
use lib.Dec.{T, leb, nleb→lt}
use lib.ListN.{length, get_elem?}
use Rattle.character_reference.specs.declared.Marker.{Marker}
use Rattle.machine.specs.State.{State, Table}
use Rattle.machine.specs.Set.{set_rank, set_setext, set_seen, set_fences, set_marker, set_first, set_aligns, set_column}
use Rattle.machine_shape.specs.Facts.{is_set, is_within}
use Rattle.machine_shape.specs.Shape.{Rel}
use Rattle.machine_shape.specs.Acts.{waiting, turns}
use Rattle.machine_shape.proofs.Done.{rel-waits}

module _ (s : State) where
  pub rank-set : (n : ℕ) → Rel (waiting (0 ∷ []) []) s (set_rank (some n) s)
  rank-set n = rel-waits _ _ (turns (0 ∷ []) []) s (tt, (λ t. t, (λ t. t, (λ t. t, (λ t. t, (λ t. t, (λ t. t, (λ t. t, (λ t. t, (λ t. t, (λ t. t, tt)))))))))))

  pub rank-none : Rel (waiting [] (0 ∷ [])) s (set_rank none s)
  rank-none = rel-waits _ _ (turns [] (0 ∷ [])) s (tt, (λ t. t, (λ t. t, (λ t. t, (λ t. t, (λ t. t, (λ t. t, (λ t. t, (λ t. t, (λ t. t, (λ t. t, tt)))))))))))

  pub setext-set : (n : List ℕ) → Rel (waiting (1 ∷ []) (2 ∷ [])) s (set_setext (some n) s)
  setext-set n = rel-waits _ _ (turns (1 ∷ []) (2 ∷ [])) s (λ t. t, (tt, (tt, (λ t. t, (λ t. t, (λ t. t, (λ t. t, (λ t. t, (λ t. t, (λ t. t, (λ t. t, tt)))))))))))

  pub setext-none : Rel (waiting (2 ∷ []) (1 ∷ [])) s (set_setext none s)
  setext-none = rel-waits _ _ (turns (2 ∷ []) (1 ∷ [])) s (λ t. t, (tt, (tt, (λ t. t, (λ t. t, (λ t. t, (λ t. t, (λ t. t, (λ t. t, (λ t. t, (λ t. t, tt)))))))))))

  pub seen-set : (n : Bool) → Rel (waiting (3 ∷ []) []) s (set_seen (some n) s)
  seen-set n = rel-waits _ _ (turns (3 ∷ []) []) s (λ t. t, (λ t. t, (λ t. t, (tt, (λ t. t, (λ t. t, (λ t. t, (λ t. t, (λ t. t, (λ t. t, (λ t. t, tt)))))))))))

  pub seen_none : Rel (waiting [] (3 ∷ [])) s (set_seen none s)
  seen_none = rel-waits _ _ (turns [] (3 ∷ [])) s (λ t. t, (λ t. t, (λ t. t, (tt, (λ t. t, (λ t. t, (λ t. t, (λ t. t, (λ t. t, (λ t. t, (λ t. t, tt)))))))))))

  pub fences-set : (n : ℕ) → Rel (waiting (4 ∷ []) []) s (set_fences (some n) s)
  fences-set n = rel-waits _ _ (turns (4 ∷ []) []) s (λ t. t, (λ t. t, (λ t. t, (λ t. t, (tt, (λ t. t, (λ t. t, (λ t. t, (λ t. t, (λ t. t, (λ t. t, tt)))))))))))

  pub fences-none : Rel (waiting [] (4 ∷ [])) s (set_fences none s)
  fences-none = rel-waits _ _ (turns [] (4 ∷ [])) s (λ t. t, (λ t. t, (λ t. t, (λ t. t, (tt, (λ t. t, (λ t. t, (λ t. t, (λ t. t, (λ t. t, (λ t. t, tt)))))))))))

  pub marker-set : (n : Marker) → Rel (waiting (5 ∷ []) (10 ∷ [])) s (set_marker (some n) s)
  marker-set n = rel-waits _ _ (turns (5 ∷ []) (10 ∷ [])) s (λ t. t, (λ t. t, (λ t. t, (λ t. t, (λ t. t, (tt, (λ t. t, (λ t. t, (λ t. t, (λ t. t, (tt, tt)))))))))))

  pub marker-none : Rel (waiting (10 ∷ []) (5 ∷ [])) s (set_marker none s)
  marker-none = rel-waits _ _ (turns (10 ∷ []) (5 ∷ [])) s (λ t. t, (λ t. t, (λ t. t, (λ t. t, (λ t. t, (tt, (λ t. t, (λ t. t, (λ t. t, (λ t. t, (tt, tt)))))))))))

  pub first-set : (n : Bool) → Rel (waiting (6 ∷ []) []) s (set_first (some n) s)
  first-set n = rel-waits _ _ (turns (6 ∷ []) []) s (λ t. t, (λ t. t, (λ t. t, (λ t. t, (λ t. t, (λ t. t, (tt, (λ t. t, (λ t. t, (λ t. t, (λ t. t, tt)))))))))))

  pub aligns-set : (n : List ℕ) → Rel (waiting (7 ∷ []) (8 ∷ 9 ∷ [])) s (set_aligns (some n) s)
  aligns-set n = rel-waits _ _ (turns (7 ∷ []) (8 ∷ 9 ∷ [])) s (λ t. t, (λ t. t, (λ t. t, (λ t. t, (λ t. t, (λ t. t, (λ t. t, (tt, (tt, (tt, (λ t. t, tt)))))))))))

  pub aligns-none : Rel (waiting [] (7 ∷ 8 ∷ 9 ∷ [])) s (set_aligns none s)
  aligns-none = rel-waits _ _ (turns [] (7 ∷ 8 ∷ 9 ∷ [])) s (λ t. t, (λ t. t, (λ t. t, (λ t. t, (λ t. t, (λ t. t, (λ t. t, (tt, (tt, (tt, (λ t. t, tt)))))))))))

  pub column-set : (n : ℕ) → Rel (waiting [] (8 ∷ 9 ∷ [])) s (set_column n s)
  column-set n = rel-waits _ _ (turns [] (8 ∷ 9 ∷ [])) s (λ t. t, (λ t. t, (λ t. t, (λ t. t, (λ t. t, (λ t. t, (λ t. t, (λ t. t, (tt, (tt, (λ t. t, tt)))))))))))

-- ---- a cell that is not past the columns has an alignment

at-column : (xs : List ℕ) (k : ℕ) → k < length xs → T (is_set (get_elem? xs k))
at-column [] k h = absurd (omega arith)
at-column (x ∷ xs) zero h = tt
at-column (x ∷ xs) (suc k) h = at-column xs k (omega arith)

pub aligned : (t : Table) → T (is_within t) → T (is_set t.aligns) × ((xs : List ℕ) → t.aligns ≡ some xs → T (is_set (get_elem? xs t.column)))
aligned t h = at t.aligns refl h
  where
    at : (o : Option (List ℕ)) → t.aligns ≡ o → T (elim o [ none ↦ false | some aligns ↦ not (leb (length aligns) t.column) ]) → T (is_set o) × ((xs : List ℕ) → o ≡ some xs → T (is_set (get_elem? xs t.column)))
    at none e h = absurd h
    at (some ys) e h = (tt, λ xs p. let q : ys ≡ xs = cc in rw (sym q) (at-column ys t.column (nleb→lt (length ys) t.column h)))
