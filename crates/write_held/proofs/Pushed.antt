-- Bytes behind the captures, pushed as they are or as a URL. Assumes nothing.
use mathlib.Core.Path.{◌≡◌, refl, sym, ◌∙◌}
use mathlib.Core.Bool.{Bool, true, false, not}
use mathlib.Core.List.{List}
use mathlib.Core.Logic.{inr}
use Prim.Native.Nat.{ℕ, ◌+◌, ◌-◌, ◌≤◌, ◌<◌}
use native.Mathlib.Omega.{arith}
use native.Mathlib.Decide.{dec_le}
use borrow.Author.Tests.{le-leb, lt-leb, leb-true, not-true, not-false}
use lib.Dec.{leb}
use lib.ListN.{length, take, drop}
use Rattle.lent.specs.Fill.{Filled}
use Rattle.lent.proofs.Laws.{and_left, and_right}
use Rattle.regions.specs.Regions.{Carries}
use Rattle.regions.specs.Sizes.{region_size, held_at}
use Rattle.machine.specs.declared.Options.{Options}
use Rattle.machine.specs.Turn.{url_of}
use Rattle.state_buffers.specs.declared.Buffers.{Buffers}
use Rattle.state_buffers.proofs.Laws.{with_page, with_end, push-page, push-capture}
use Rattle.write_held.specs.Parts.{PushesPart, PushesUrlPart}
use Rattle.write_held.specs.Private.{is_part, Part, Appended}

-- ---- the test

module _ (len from n : ℕ) where
  pub too-low : from < region_size → false ≡ is_part len from n
  unfolding is_part
  too-low h = rw (lt-leb held_at from h)

  pub too_many : held_at ≤ from → len < n → false ≡ is_part len from n
  unfolding is_part
  too_many h k = let l : len < from + n = omega arith in rw (le-leb held_at from h, lt-leb (from + n) len l)

  pub so-many : held_at ≤ from → n ≤ len → leb from (len - n) ≡ is_part len from n
  unfolding is_part
  so-many h k = rw (le-leb held_at from h) (
      elim (dec_le from (len - n)) [
        | yes l ↦ (let m : from + n ≤ len = omega arith in rw (le-leb from (len - n) l, le-leb (from + n) len m))
        | no l ↦ (let m : len < from + n = omega arith in let o : len - n < from = omega arith in rw (lt-leb from (len - n) o, lt-leb (from + n) len m))
      ])

  part-is : is_part len from n ≡ true → (held_at ≤ from) × (from + n ≤ len)
  unfolding is_part
  part-is p = (leb-true held_at from (and_left (leb held_at from) (leb (from + n) len) p), leb-true (from + n) len (and_right (leb held_at from) (leb (from + n) len) p))

  part-so : held_at ≤ from → from + n ≤ len → is_part len from n ≡ true
  unfolding is_part
  part-so h k = rw (le-leb held_at from h, le-leb (from + n) len k)

  -- as the code asks
  pub part_low : {x : Bool} → x ≡ is_part len from n → not x ≡ false → held_at ≤ from
  part_low {x} e p = (part-is (sym e ∙ not-false x p)).0

  pub part-high : {x : Bool} → x ≡ is_part len from n → not x ≡ false → from + n ≤ len
  part-high {x} e p = (part-is (sym e ∙ not-false x p)).1

  pub part-not : {x : Bool} → x ≡ is_part len from n → not x ≡ true → held_at ≤ from → from + n ≤ len → ⊥
  part-not {x} e p h k =
      let q = sym (part-so h k) ∙ sym e ∙ not-true x p in
      let z : ◌≡◌ {A = ℕ} 0 1 = cc in
      omega arith

-- ---- a push

module _ {from n : ℕ} {b : Buffers} {w out : List ℕ} where
  pub no_part : {x : Bool} → x ≡ is_part (length w) from n → not x ≡ true → PushesPart from n b w out b w out
  no_part e p = record { pushes = λ h k l. absurd (part-not (length w) from n e p k (omega arith)) }

  pub part-to-page : {e : List ℕ} {r : ℕ} → b.depth ≡ 0 → Filled out b.page (take (from + n - from) (drop from w)) e r → PushesPart from n b w out (with_page r b) w e
  part-to-page {e} {r} d f =
      let z : from + n - from ≡ n = omega arith in
      record { pushes = λ h k l. (push-page b (take region_size w) out (take n (drop from w)) e r d (rw z at f), refl) }

  pub part-to-capture : {w' : List ℕ} {r : ℕ} → (b.depth ≡ 0 → ⊥) → Carries w from n 0 b.end w' r → PushesPart from n b w out (with_end r b) w' out
  part-to-capture {w'} {r} d x = record {
    pushes = λ h k l.
        let c = x.carries (omega arith) (omega arith) (omega arith) (inr k) in
        (push-capture b (take region_size w) out (take n (drop from w)) (take region_size w') r d c.filled, c.behind);
  }

-- ---- a URL

module _ {o : Options} {image : Bool} {from n : ℕ} {b : Buffers} {w out : List ℕ} where
  pub no-url : {x : Bool} → x ≡ is_part (length w) from n → not x ≡ true → PushesUrlPart o image from n b w out b w out
  no-url e p = record { pushes = λ h k l m. absurd (part-not (length w) from n e p k (omega arith)) }

  pub too_long : region_size < n → PushesUrlPart o image from n b w out b w out
  too_long g = record { pushes = λ h k l m. absurd (omega arith) }

  pub url-to-page : {e : List ℕ} {r : ℕ} → b.depth ≡ 0 → Filled out b.page (url_of o image (take (from + n - from) (drop from w))) e r → PushesUrlPart o image from n b w out (with_page r b) w e
  url-to-page {e} {r} d f =
      let z : from + n - from ≡ n = omega arith in
      record { pushes = λ h k l m. (push-page b (take region_size w) out (url_of o image (take n (drop from w))) e r d (rw z at f), refl) }

  pub url-to-capture : {w' : List ℕ} {r : ℕ} → (b.depth ≡ 0 → ⊥) → Appended w b.end (url_of o image (take n (drop from w))) w' r → PushesUrlPart o image from n b w out (with_end r b) w' out
  url-to-capture {w'} {r} d x = record {
    pushes = λ h k l m. (push-capture b (take region_size w) out (url_of o image (take n (drop from w))) (take region_size w') r d x.filled, x.behind);
  }

-- what the copy of a URL wants
pub part_of : (w : List ℕ) (from n : ℕ) {x : Bool} → x ≡ is_part (length w) from n → not x ≡ false → n ≤ region_size → Part w from n region_size
part_of w from n e p h = record { low = part_low (length w) from n e p; high = part-high (length w) from n e p; few = h }
