-- Pieces of a region: those that stand stay when bytes are appended, which are a piece themselves. Assumes nothing.
use Rattle.std.proofs.Common.{◌≡◌, sym, ap, ◌∙◌, List, ◌++◌, ℕ, zero, suc, ◌+◌, ◌≤◌, arith, length, take, drop, length-take, take-add, drop_at}
use Rattle.std.proofs.Math.Option.{Option, none, some}
use Rattle.lent.specs.Fill.{fill}
use Rattle.lent.proofs.Laws.{front-before, take-fill}
use Rattle.state_kept.specs.Kept.{Piece, Optional}
use Rattle.state_kept.proofs.Lists.{part_same}

pub piece-stays : (region region' : List ℕ) (end end' : ℕ) {b : List ℕ} {place n : ℕ} → take end region' ≡ take end region → end ≤ end' → Piece region end place n b → Piece region' end' place n b
piece-stays region region' end end' {place = place} {n = n} e h p =
    record { long = p.long; below = omega (arith, p.below); bytes = part_same place n end region region' p.below e ∙ p.bytes }

pub optional-stays : (region region' : List ℕ) (end end' : ℕ) → take end region' ≡ take end region → end ≤ end' → (place word : ℕ) (b : Option (List ℕ)) → Optional region end place word b → Optional region' end' place word b
optional-stays region region' end end' e h place zero none p = p
optional-stays region region' end end' e h place zero (some b) p = p
optional-stays region region' end end' e h place (suc n) none p = p
optional-stays region region' end end' e h place (suc n) (some b) p = piece-stays region region' end end' e h p

-- what is appended where all of it has room
pub piece-new : (region : List ℕ) (end n : ℕ) (s : List ℕ) → n ≡ length s → end + n ≤ length region → Piece (fill region end s) (end + n) end n s
piece-new region end n s e h = record { long = e; below = omega arith; bytes = rw e there }
  where
    there : take (length s) (drop end (fill region end s)) ≡ s
    there =
        let l : length (take end region) ≡ end = simp length-take (omega arith) in
        let m : length (take end (fill region end s)) ≡ end = ap length (front-before region end s end (omega arith)) ∙ l in
        let k : end + length s ≤ length region = omega arith in
        let q : take end (fill region end s) ++ take (length s) (drop end (fill region end s)) ≡ take end region ++ s = sym (take-add end (length s) (fill region end s)) ∙ take-fill region end s k in
        sym (drop_at (take end (fill region end s)) (take (length s) (drop end (fill region end s))) end m) ∙ ap (drop end) q ∙ drop_at (take end region) s end l
