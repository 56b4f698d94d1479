-- Why two labels can be compared by their iterators. Assumes nothing.
use Rattle.std.proofs.Common.{◌≡◌, ℕ, Bool, true, false, List, [], ◌∷◌, eqb, Option, Some, None, IfSome}
use Rattle.std.specs.Iterator.{YieldsFirst, YieldsThen}
use Rattle.std.specs.List.{AllZip}
use Rattle.std.specs.Option.{MatchOption}
use Rattle.lent.specs.Bytes.{same}
use Rattle.normalize_identifier.specs.declared.Identity.{Identity}
use Rattle.normalize_identifier.specs.Left.{left}

-- the next answers of two iterators, and what they say of what both had left
abbrev pub Last : Bool → Option ℕ → Option ℕ → Type 0
Last r o p = MatchOption o (MatchOption p (r ≡ true) (λ _. r ≡ false)) (λ x. (r ≡ false) × IfSome p (λ y. eqb x y ≡ false))

ends : (i j u v : Identity) (o p : Option ℕ) (r : Bool) → YieldsFirst left i o u → YieldsFirst left j p v → Last r o p → r ≡ same (left i) (left j)
ends i j u v None None r a b e = rw (a.0, b.0) e
ends i j u v None (Some y) r a b e = rw (a.0, b) e
ends i j u v (Some x) None r a b e = rw (a, b.0) e.0
ends i j u v (Some x) (Some y) r a b e = rw (a, b, e.1) e.0

-- two iterators that gave the same bytes, and then two answers
pub compared : (i j u v : Identity) (xs ys : List ℕ) (o p : Option ℕ) (r : Bool) → YieldsThen (YieldsFirst left) i xs o u → YieldsThen (YieldsFirst left) j ys p v → AllZip (λ x y. eqb x y ≡ true) xs ys → Last r o p
    → r ≡ same (left i) (left j)
compared i j u v [] [] o p r a b z e = rw (a.1, b.1) (ends a.0 b.0 u v o p r a.2 b.2 e)
compared i j u v [] (y ∷ ys) o p r a b z e = absurd z
compared i j u v (x ∷ xs) [] o p r a b z e = absurd z
compared i j u v (x ∷ xs) (y ∷ ys) o p r a b z e = rw (a.1.1, b.1.1, z.0) (compared a.1.0 b.1.0 u v xs ys o p r (a.0, a.1.2, a.2) (b.0, b.1.2, b.2) z.1 e)
