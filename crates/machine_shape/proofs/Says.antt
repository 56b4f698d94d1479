-- Laws of what a shape says of facts. Assumes nothing.
use mathlib.Core.Path.{◌≡◌, refl}
use mathlib.Core.Bool.{Bool, true, false, ◌&&◌}
use mathlib.Core.List.{List, [], ◌∷◌}
use Prim.Native.Nat.{ℕ, zero, suc}
use lib.Dec.{T}
use lib.ListN.{get_or}
use Rattle.machine.specs.State.{State}
use Rattle.machine_shape.specs.Shape.{Say, sure, kept, lost, Says, Mean, at, later, laters, covers1, covers_all, all_of}
use Rattle.machine_shape.specs.Fits.{is_sure}
use Rattle.machine_shape.specs.Kinds.{firmly}

pub both : (a b : Bool) → T (a && b) → T a × T b
both true b t = (tt, t)
both false b t = absurd t

pub passed : (x : Bool) → T x → x ≡ true
passed true t = refl
passed false t = absurd t

-- all tests passed
abbrev pub AllOf : List Bool → Type 0
AllOf [] = Unit {0}
AllOf (b ∷ bs) = T b × AllOf bs

pub each : (bs : List Bool) → T (all_of bs) → AllOf bs
each [] t = tt
each (b ∷ bs) t = let p = both b (all_of bs) t in (p.0, each bs p.1)

says-later : (p q : Say) (x y z : Bool) → Says p x y → Says q y z → Says (later p q) x z
says-later p sure x y z h k = k
says-later sure kept x y z h k = k h
says-later kept kept x y z h k = λ t. k (h t)
says-later lost kept x y z h k = tt
says-later p lost x y z h k = tt

says_less : (p q : Say) (x y : Bool) → T (covers1 p q) → Says p x y → Says q x y
says_less sure sure x y t h = h
says_less sure kept x y t h = λ u. h
says_less sure lost x y t h = tt
says_less kept sure x y t h = absurd t
says_less kept kept x y t h = h
says_less kept lost x y t h = tt
says_less lost sure x y t h = absurd t
says_less lost kept x y t h = absurd t
says_less lost lost x y t h = tt

-- a fact that is asked holds now
says-asked : (p q : Say) (x y : Bool) → T (covers1 p q) → Says p x y → Says q y y
says-asked sure sure x y t h = h
says-asked kept sure x y t h = absurd t
says-asked lost sure x y t h = absurd t
says-asked p kept x y t h = λ u. u
says-asked p lost x y t h = tt

says-after : (p : Say) (x y z : Bool) → Says p x y → (T y → T z) → Says p x z
says-after sure x y z h k = k h
says-after kept x y z h k = λ t. k (h t)
says-after lost x y z h k = tt

-- nothing is taken away
abbrev pub keeps : List (State → Bool) → List Say
keeps [] = []
keeps (f ∷ fs) = kept ∷ keeps fs

module _ (a b c : State) where
  pub mean-later : (fs : List (State → Bool)) (xs ys : List Say) → Mean fs xs a b → Mean fs ys b c → Mean fs (laters xs ys) a c
  mean-later [] xs ys h k = tt
  mean-later (f ∷ fs) [] ys h k = tt
  mean-later (f ∷ fs) (x ∷ xs) [] h k = tt
  mean-later (f ∷ fs) (x ∷ xs) (y ∷ ys) h k = (says-later x y (f a) (f b) (f c) h.0 k.0, mean-later fs xs ys h.1 k.1)

  pub mean-after : (fs : List (State → Bool)) (xs : List Say) → Mean fs xs a b → Mean fs (keeps fs) b c → Mean fs xs a c
  mean-after [] xs h k = tt
  mean-after (f ∷ fs) [] h k = tt
  mean-after (f ∷ fs) (x ∷ xs) h k = (says-after x (f a) (f b) (f c) h.0 k.0, mean-after fs xs h.1 k.1)

module _ (a b : State) where
  pub mean-less : (fs : List (State → Bool)) (xs ys : List Say) → T (covers_all xs ys) → Mean fs xs a b → Mean fs ys a b
  mean-less [] xs ys t h = tt
  mean-less (f ∷ fs) xs [] t h = tt
  mean-less (f ∷ fs) [] (y ∷ ys) t h = absurd t
  mean-less (f ∷ fs) (x ∷ xs) (y ∷ ys) t h = let p = both (covers1 x y) (covers_all xs ys) t in (says_less x y (f a) (f b) p.0 h.0, mean-less fs xs ys p.1 h.1)

  pub mean-asked : (fs : List (State → Bool)) (xs ys : List Say) → T (covers_all xs ys) → Mean fs xs a b → Mean fs ys b b
  mean-asked [] xs ys t h = tt
  mean-asked (f ∷ fs) xs [] t h = tt
  mean-asked (f ∷ fs) [] (y ∷ ys) t h = absurd t
  mean-asked (f ∷ fs) (x ∷ xs) (y ∷ ys) t h = let p = both (covers1 x y) (covers_all xs ys) t in (says-asked x y (f a) (f b) p.0 h.0, mean-asked fs xs ys p.1 h.1)

  pub mean-firm : (fs : List (State → Bool)) (xs : List Say) → Mean fs xs a a → Mean fs (firmly xs) a a
  mean-firm [] xs h = tt
  mean-firm (f ∷ fs) [] h = tt
  mean-firm (f ∷ fs) (sure ∷ xs) h = (h.0, mean-firm fs xs h.1)
  mean-firm (f ∷ fs) (kept ∷ xs) h = (h.0, mean-firm fs xs h.1)
  mean-firm (f ∷ fs) (lost ∷ xs) h = (λ t. t, mean-firm fs xs h.1)

  -- one fact: that it holds can be read off, and written down
  pub mean-sure : (fs : List (State → Bool)) (xs : List Say) (k : ℕ) → T (is_sure (get_or xs k lost)) → Mean fs xs a b → T (get_or fs k (λ s. true) b)
  mean-sure [] xs k t h = tt
  mean-sure (f ∷ fs) [] k t h = absurd t
  mean-sure (f ∷ fs) (sure ∷ xs) zero t h = h.0
  mean-sure (f ∷ fs) (kept ∷ xs) zero t h = absurd t
  mean-sure (f ∷ fs) (lost ∷ xs) zero t h = absurd t
  mean-sure (f ∷ fs) (x ∷ xs) (suc k) t h = mean-sure fs xs k t h.1

  pub mean-known : (fs : List (State → Bool)) (xs : List Say) (k : ℕ) → T (get_or fs k (λ s. true) b) → Mean fs xs a b → Mean fs (at k sure xs) a b
  mean-known [] xs k t h = tt
  mean-known (f ∷ fs) [] k t h = tt
  mean-known (f ∷ fs) (x ∷ xs) zero t h = (t, h.1)
  mean-known (f ∷ fs) (x ∷ xs) (suc k) t h = (h.0, mean-known fs xs k t h.1)
