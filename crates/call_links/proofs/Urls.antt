-- The next URL of a list: where it ends, what it gives, and whether that has room. Assumes nothing.
use Rattle.std.specs.Prelude.{if◌then◌else◌}
use mathlib.Core.Path.{◌≡◌, refl}
use mathlib.Core.Bool.{Bool, true, false, ◌||◌}
use mathlib.Core.List.{List, [], ◌∷◌}
use Prim.Native.Nat.{ℕ, suc, ◌-◌, ◌≤◌, ◌<◌}
use native.Mathlib.Omega.{arith}
use borrow.Author.Tests.{lt-ltb, le-ltb, ltb-false}
use lib.Dec.{ltb}
use lib.ListN.{length, take, drop}
use Rattle.call_links_answer.specs.Links.{link_of, links_from, ordered, fitting}

-- ---- a first URL, and those behind it

module _ (size from e : ℕ) (es : List ℕ) where
  order-case : (x y : Bool) → ltb e from ≡ x → ltb size e ≡ y → suc (length es) ≤ (if x || y then 0 else suc (ordered size e es))
      → (from ≤ e) × (e ≤ size) × (length es ≤ ordered size e es)
  order-case true y p q h = absurd (omega arith)
  order-case false true p q h = absurd (omega arith)
  order-case false false p q h = (ltb-false e from p, ltb-false size e q, omega arith)

  pub order-first : suc (length es) ≤ ordered size from (e ∷ es) → (from ≤ e) × (e ≤ size) × (length es ≤ ordered size e es)
  unfolding ordered
  order-first h = order-case (ltb e from) (ltb size e) refl refl h

pub links-first : (on : Bool) (text : List ℕ) (from e : ℕ) (es : List ℕ) → links_from on text from (e ∷ es) ≡ link_of on (take (e - from) (drop from text)) ∷ links_from on text e es
unfolding links_from
links-first on text from e es = refl

pub links-none : (on : Bool) (text : List ℕ) (from : ℕ) → links_from on text from [] ≡ []
unfolding links_from
links-none on text from = refl

module _ (room : ℕ) (s : List ℕ) (ss : List (List ℕ)) where
  pub fits_not : room < length s → fitting room (s ∷ ss) ≡ 0
  unfolding fitting
  fits_not h = rw (lt-ltb room (length s) h)

  pub fits-first : length s ≤ room → fitting room (s ∷ ss) ≡ suc (fitting (room - length s) ss)
  unfolding fitting
  fits-first h = rw (le-ltb room (length s) h)

pub fits-none : (room : ℕ) → fitting room [] ≡ 0
unfolding fitting
fits-none room = refl
