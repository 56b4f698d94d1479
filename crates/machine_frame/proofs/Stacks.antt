-- Stacks: which of them lie over what was there, and what is left of that. Assumes nothing.
use mathlib.Core.Path.{◌≡◌, refl, sym, ap, ◌∙◌}
use mathlib.Core.List.{List, [], ◌∷◌, ◌++◌, append-nil, append_assoc}
use Prim.Native.Nat.{ℕ, zero, suc, ◌+◌, ◌-◌}
use native.Mathlib.Omega.{arith}
use lib.Dec.{T, leb→le, eqb→eq}
use lib.ListN.{drop}
use lib.Seq.{drop-drop}
use Rattle.machine_shape.specs.Shape.{Moves, sum, equal}
use Rattle.machine_shape.specs.Fits.{enough}

-- ---- in which relation a stack may stand to what it was

pub record Order {A : Type 0} (R : List A → List A → Type 0) : Type 0 where
  pub joins : (xs ys zs : List A) → R xs ys → R ys zs → R xs zs
  pub drops : (n : ℕ) (xs ys : List A) → R xs ys → R (drop n xs) (drop n ys)

module _ {A : Type 0} (R : List A → List A → Type 0) (order : Order R) where
  -- some were popped, then some pushed
  abbrev pub Left : Moves → List A → List A → Type 0
  Left m xs ys = R (drop m.down xs) (drop m.up ys)

  -- no more were popped than pushed: what was there lies below
  abbrev pub Above : Moves → List A → List A → Type 0
  Above m xs ys = (h : ℕ) × (m.up ≡ m.down + h) × R xs (drop h ys)

  pub above-later : (m n : Moves) (xs ys zs : List A) → T (enough m n) → Above m xs ys → Left n ys zs → Above (sum m n) xs zs
  above-later m n xs ys zs t (h, e, r) k =
      let l = leb→le (m.down + n.down) m.up t in
      let i : n.down + (h - n.down) ≡ h = omega arith in
      let q : R (drop h ys) (drop (n.up + (h - n.down)) zs) = rw (drop-drop (h - n.down) n.down ys, drop-drop (h - n.down) n.up zs, i) at (order.drops (h - n.down) (drop n.down ys) (drop n.up zs) k) in
      (n.up + (h - n.down), omega arith, order.joins xs (drop h ys) (drop (n.up + (h - n.down)) zs) r q)

  pub above_as : (m n : Moves) (xs ys : List A) → T (equal m n) → Above m xs ys → Above n xs ys
  above_as m n xs ys t (h, e, r) = let q = eqb→eq (m.up + n.down) (n.up + m.down) t in (h, omega arith, r)

  pub above-left : (m n : Moves) (xs ys : List A) → T (equal m n) → Above m xs ys → Left n xs ys
  above-left m n xs ys t (h, e, r) =
      let q = eqb→eq (m.up + n.down) (n.up + m.down) t in
      let i : h + n.down ≡ n.up = omega arith in
      rw (drop-drop n.down h ys, i) at (order.drops n.down xs (drop h ys) r)

  pub above-after : (m : Moves) (xs ys zs : List A) → Above m xs ys → R ys zs → Above m xs zs
  above-after m xs ys zs (h, e, r) k = (h, e, order.joins xs (drop h ys) (drop h zs) r (order.drops h ys zs k))

-- ---- the same

abbrev pub Same : {A : Type 0} → List A → List A → Type 0
Same xs ys = ys ≡ xs

pub same-order : {A : Type 0} → Order {A = A} Same
same-order = record { joins = λ xs ys zs e f. f ∙ e; drops = λ n xs ys e. ap (drop n) e }

-- ---- the same but that the newest has grown

abbrev pub grow : List ℕ → List (List ℕ) → List (List ℕ)
grow w [] = []
grow w (b ∷ bs) = (b ++ w) ∷ bs

abbrev pub Grew : List (List ℕ) → List (List ℕ) → Type 0
Grew xs ys = (w : List ℕ) × (ys ≡ grow w xs)

pub grew_none : (xs ys : List (List ℕ)) → ys ≡ xs → Grew xs ys
grew_none xs ys e = ([], e ∙ at xs)
  where
    at : (xs : List (List ℕ)) → xs ≡ grow [] xs
    at [] = refl
    at (b ∷ bs) = ap (λ (l : List ℕ). l ∷ bs) (sym (append-nil b))

grow-grow : (w v : List ℕ) (xs : List (List ℕ)) → grow v (grow w xs) ≡ grow (w ++ v) xs
grow-grow w v [] = refl
grow-grow w v (b ∷ bs) = ap (λ (l : List ℕ). l ∷ bs) (append_assoc b w v)

drop-grow : (n : ℕ) (w : List ℕ) (xs : List (List ℕ)) → drop (suc n) (grow w xs) ≡ drop (suc n) xs
drop-grow n w [] = refl
drop-grow n w (b ∷ bs) = refl

grew-drops : (n : ℕ) (xs ys : List (List ℕ)) → Grew xs ys → Grew (drop n xs) (drop n ys)
grew-drops zero xs ys g = g
grew-drops (suc n) xs ys (w, e) = grew_none (drop (suc n) xs) (drop (suc n) ys) (ap (drop (suc n)) e ∙ drop-grow n w xs)

pub grew-order : Order Grew
grew-order = record { joins = λ xs ys zs (w, e) (v, f). (w ++ v, f ∙ ap (grow v) e ∙ grow-grow w v xs); drops = grew-drops }
