-- What no lack says of the totals and the page. Assumes nothing.
use Rattle.std.specs.Prelude.{if◌then◌else◌}
use mathlib.Core.Path.{◌≡◌, refl}
use mathlib.Core.Bool.{Bool, true, false, ◌||◌}
use mathlib.Core.Option.{Option, none, some}
use Prim.Native.Nat.{ℕ, ◌≤◌}
use native.Mathlib.Omega.{arith}
use borrow.Author.Tests.{ltb-false}
use lib.Dec.{ltb}
use lib.ListN.{length}
use Rattle.machine.specs.State.{State}
use Rattle.machine.specs.Totals.{captured, held, kept, over, most_total}

pub record Within (room : ℕ) (s : State) : Type 0 where
  pub captures : captured s ≤ most_total
  pub held-is : held s ≤ most_total
  pub kept-is : kept s ≤ most_total
  pub page : length s.page ≤ room

abbrev judge : (a b c d : Bool) → Option ℕ
judge a b c d = if (a || b || c) then some 8 else (if d then some 9 else none)

none-judged : (a b c d : Bool) → judge a b c d ≡ none → (a ≡ false) × (b ≡ false) × (c ≡ false) × (d ≡ false)
none-judged true b c d p = let z : ◌≡◌ {A = ℕ} 0 1 = cc in absurd (omega arith)
none-judged false true c d p = let z : ◌≡◌ {A = ℕ} 0 1 = cc in absurd (omega arith)
none-judged false false true d p = let z : ◌≡◌ {A = ℕ} 0 1 = cc in absurd (omega arith)
none-judged false false false true p = let z : ◌≡◌ {A = ℕ} 0 1 = cc in absurd (omega arith)
none-judged false false false false p = (refl, refl, refl, refl)

module _ (room : ℕ) (s : State) where
  pub none_over : over room s ≡ none → Within room s
  unfolding over
  none_over p =
      let q = none-judged (ltb most_total (captured s)) (ltb most_total (held s)) (ltb most_total (kept s)) (ltb room (length s.page)) p in
      record { captures = ltb-false most_total (captured s) q.0; held-is = ltb-false most_total (held s) q.1; kept-is = ltb-false most_total (kept s) q.2; page = ltb-false room (length s.page) q.3 }
