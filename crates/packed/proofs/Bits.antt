-- One answer more and one fewer, in bits. Assumes nothing.
use Rattle.std.proofs.Common.{◌≡◌, refl, ap, ◌∙◌, Bool, true, false, not, ◌||◌, List, [], ◌∷◌, ℕ, zero, suc, ◌+◌, ◌-◌, ◌/◌, ◌%◌, ◌*◌, ◌^◌, ◌≤◌, ◌<◌, arith, add-one, ne_eqb, eqb-true, eqb, length, pow_mono, pow-add, shr_lt}
use Rattle.std.proofs.Math.Decide.{dec_le}
use borrow.Author.Tests.{eqb-false}
use Rattle.std.proofs.Math.Pow.{low, high}
use Rattle.packed.specs.declared.Tight.{Tight}
use Rattle.packed.specs.Tight.{answers, Tightened, older, newest_of, any_of, More, Fewer, Newest, Any}
use Rattle.packed.specs.Private.{bit_of, wider}

-- ---- one more

bit-back : (x : Bool) → eqb (bit_of x) 1 ≡ x
bit-back true = refl
bit-back false = refl

bit-small : (x : Bool) → bit_of x < 2
bit-small true = omega arith
bit-small false = omega arith

-- fewer than 64 leave a bit
room_for : {t : Tight} (a : List Bool) → length a < 64 → Tightened t a → (t.count < 64) × (t.bits < 2 ^ 63)
room_for {t} a h r =
    let n = r.count in
    let p = r.small in
    let m : t.count ≤ 63 = omega arith in
    let q = pow_mono m in
    (omega arith, omega arith)

module _ {x : Bool} {t : Tight} where
  pub too-deep : 63 < t.count → More x t t
  too-deep h = record { more = λ a l r. absurd (omega (arith, (room_for a l r).0)) }

  pub too_wide : 0x7FFF_FFFF_FFFF_FFFF < t.bits → More x t t
  too_wide h = record { more = λ a l r. absurd (omega (arith, (room_for a l r).1)) }

  widened : (a : List Bool) → Tightened t a → Tightened (wider x t) (x ∷ a)
  widened a h =
      let n = h.count in
      let p = h.small in
      let k = bit-small x in
      let two = pow-add 2 t.count 1 in
      let lo : (t.bits * 2 + bit_of x) % 2 ≡ bit_of x = low t.bits 1 k in
      let hi : (t.bits * 2 + bit_of x) / 2 ≡ t.bits = high t.bits 1 k in
      let b = h.bits in
      record { count = omega arith; bits = rw (add-one, lo, hi, bit-back x) (ap (λ (l : List Bool). x ∷ l) b); small = omega arith }

  pub widens : {r : Tight} → r ≡ wider x t → More x t r
  widens e = record { more = λ a l h. rw e (widened a h) }

module _ (x : Bool) (t : Tight) where
  pub wide-yes : x ≡ true → record { bits = t.bits * 2 + 1; count = t.count + 1 } ≡ wider x t
  wide-yes p = rw p

  pub wide-no : x ≡ false → record { bits = t.bits * 2; count = t.count + 1 } ≡ wider x t
  wide-no p = let e : t.bits * 2 + 0 ≡ t.bits * 2 = omega arith in rw (p, e)

-- ---- one fewer, and the newest

module _ {t : Tight} where
  pub none-fewer : t.count ≡ 0 → Fewer t t
  none-fewer z = record { fewer = on }
    where
      on : (a : List Bool) → Tightened t a → Tightened t (older a)
      on [] x = x
      on (b ∷ bs) x = let n = x.count in absurd (omega arith)

  pub one_fewer : (t.count ≡ 0 → ⊥) → Fewer t (record { bits = t.bits / 2; count = t.count - 1 })
  one_fewer z = record { fewer = on }
    where
      on : (a : List Bool) → Tightened t a → Tightened (record { bits = t.bits / 2; count = t.count - 1 }) (older a)
      on [] x = absurd (z x.count)
      on (b ∷ bs) x =
          let n = x.count in
          let e : t.count ≡ suc (length bs) = n in
          let m : t.count - 1 ≡ length bs = omega arith in
          let q : answers (suc (length bs)) t.bits ≡ b ∷ bs = rw e at x.bits in
          let e' : t.count ≡ length bs + 1 = omega arith in
          let l : t.bits < 2 ^ (length bs + 1) = rw e' at x.small in
          record { count = m; bits = rw m (ap older q); small = rw m (shr_lt (length bs) 1 l) }

  pub none-newest : t.count ≡ 0 → Newest t false
  none-newest z = record { newest = on }
    where
      on : (a : List Bool) → Tightened t a → false ≡ newest_of a
      on [] x = refl
      on (b ∷ bs) x = let n = x.count in absurd (omega arith)

  pub lowest : (t.count ≡ 0 → ⊥) → Newest t (eqb (t.bits % 2) 1)
  lowest z = record { newest = on }
    where
      on : (a : List Bool) → Tightened t a → eqb (t.bits % 2) 1 ≡ newest_of a
      on [] x = absurd (z x.count)
      on (b ∷ bs) x =
          let e : t.count ≡ suc (length bs) = x.count in
          let q : answers (suc (length bs)) t.bits ≡ b ∷ bs = rw e at x.bits in
          ap newest_of q

-- ---- any

even-small : (bits : ℕ) → (bits % 2 ≡ 1 → ⊥) → bits / 2 ≡ 0 → bits ≡ 0
even-small bits odd h = elim (dec_le 1 bits) [ yes z ↦ absurd (odd (omega arith)) | no z ↦ omega arith ]

-- where the lowest is no, the others decide
even-zero : (bits : ℕ) → eqb (bits % 2) 1 ≡ false → not (eqb bits 0) ≡ not (eqb (bits / 2) 0)
even-zero bits q =
    elim (dec_le 1 (bits / 2)) [
      | yes z ↦ rw (ne_eqb bits 0 (λ e. absurd (omega arith)), ne_eqb (bits / 2) 0 (λ e. absurd (omega arith)))
      | no z ↦ let e : bits ≡ 0 = even-small bits (eqb-false (bits % 2) 1 q) (omega arith) in rw e
    ]

odd-there : (bits : ℕ) → eqb (bits % 2) 1 ≡ true → bits ≡ 0 → ⊥
odd-there bits q z = let r : bits % 2 ≡ 1 = eqb-true (bits % 2) 1 q in omega arith

-- n answers in bits below 2 ^ n: one is yes exactly where the bits are not 0
some-bit : (n bits : ℕ) → bits < 2 ^ n → not (eqb bits 0) ≡ any_of (answers n bits)
some-bit zero bits h = let z : bits ≡ 0 = omega arith in rw z
some-bit (suc n) bits h = on (eqb (bits % 2) 1) refl (some-bit n (bits / 2) (let e : suc n ≡ n + 1 = omega arith in shr_lt n 1 (rw e at h)))
  where
    on : (x : Bool) → eqb (bits % 2) 1 ≡ x → not (eqb (bits / 2) 0) ≡ any_of (answers n (bits / 2)) → not (eqb bits 0) ≡ x || any_of (answers n (bits / 2))
    on true q p = rw (ne_eqb bits 0 (odd-there bits q))
    on false q p = even-zero bits q ∙ p

pub any-bit : {t : Tight} → Any t (not (eqb t.bits 0))
any-bit {t} = record { any = λ a x. rw (← x.bits) (some-bit t.count t.bits x.small) }
