-- A list of answers in bits. Assumes nothing.
use Rattle.std.specs.Prelude.{◌≡◌, Bool, false, ◌||◌, List, [], ◌∷◌, ℕ, zero, suc, ◌/◌, ◌%◌, ◌^◌, ◌<◌, eqb, length}
use Rattle.packed.specs.declared.Tight.{Tight}

-- n answers, the newest in the lowest bit
abbrev pub answers : ℕ → ℕ → List Bool
answers zero bits = []
answers (suc n) bits = eqb (bits % 2) 1 ∷ answers n (bits / 2)

pub record Tightened (t : Tight) (a : List Bool) : Type 0 where
  pub count : t.count ≡ length a
  pub bits : answers t.count t.bits ≡ a
  pub small : t.bits < 2 ^ t.count

abbrev pub older : List Bool → List Bool
older [] = []
older (x ∷ a) = a

abbrev pub newest_of : List Bool → Bool
newest_of [] = false
newest_of (x ∷ a) = x

abbrev pub any_of : List Bool → Bool
any_of [] = false
any_of (x ∷ a) = x || any_of a

pub record More (x : Bool) (t r : Tight) : Type 0 where
  pub more : (a : List Bool) → length a < 64 → Tightened t a → Tightened r (x ∷ a)

pub record Fewer (t r : Tight) : Type 0 where
  pub fewer : (a : List Bool) → Tightened t a → Tightened r (older a)

pub record Newest (t : Tight) (r : Bool) : Type 0 where
  pub newest : (a : List Bool) → Tightened t a → r ≡ newest_of a

pub record Any (t : Tight) (r : Bool) : Type 0 where
  pub any : (a : List Bool) → Tightened t a → r ≡ any_of a
