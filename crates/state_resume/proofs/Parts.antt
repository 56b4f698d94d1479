-- Parts of a buffer, and a buffer in which a text has grown. Assumes nothing.
use mathlib.Core.Path.{◌≡◌, sym, ap, ◌∙◌}
use mathlib.Core.List.{List, [], ◌∷◌, ◌++◌, append_assoc}
use Prim.Native.Nat.{ℕ, zero, suc, ◌+◌, ◌-◌, ◌≤◌, ◌<◌}
use native.Mathlib.Omega.{arith}
use lib.ListN.{length, take, drop, get_or, length-append, length-take, length-drop}
use lib.Seq.{take-nil, drop_at, drop-cons, drop-drop, take-take}
use Rattle.lent.specs.Fill.{Filled}
use Rattle.lent.proofs.Laws.{length-filled, take-fill}
use Rattle.state_buffers.specs.Stand.{Holds}
use Rattle.state_buffers.proofs.Laws.{holds-place, holds-bytes}
use Rattle.state_resume.specs.Private.{part, Grown}

-- ---- parts

pub drop-take : (a m : ℕ) (l : List ℕ) → drop a (take m l) ≡ take (m - a) (drop a l)
drop-take zero m l = let z : m - 0 ≡ m = omega arith in rw z
drop-take (suc a) zero l = let z : 0 - suc a ≡ 0 = omega arith in rw z
drop-take (suc a) (suc m) [] = let z : suc m - suc a ≡ m - a = omega arith in rw (z, take-nil (m - a))
drop-take (suc a) (suc m) (x ∷ l) = let z : suc m - suc a ≡ m - a = omega arith in rw z (drop-take a m l)

pub part_none : (d : List ℕ) (from to : ℕ) → to ≤ from → part d from to ≡ []
part_none d from to h = let z : to - from ≡ 0 = omega arith in rw z

pub part-cons : (d : List ℕ) (from to : ℕ) → from < to → to ≤ length d → part d from to ≡ get_or d from 0 ∷ part d (suc from) to
part-cons d from to h l = let z : to - from ≡ suc (to - suc from) = omega arith in rw (z, drop-cons d from 0 (omega arith))

pub length_part : (d : List ℕ) (from to : ℕ) → to ≤ length d → length (part d from to) ≡ to - from
length_part d from to l = simp (length-take, length-drop) (omega arith)

-- what stands behind u
pub part-is : (d u c : List ℕ) (from to : ℕ) → take to d ≡ u ++ c → from ≡ length u → part d from to ≡ c
part-is d u c from to p q = sym (drop-take from to d) ∙ ap (drop from) p ∙ drop_at u c from (sym q)

pub part-part : (d : List ℕ) (from to a z : ℕ) → from + z ≤ to → part (part d from to) a z ≡ part d (from + a) (from + z)
part-part d from to a z h =
    let e : from + z - (from + a) ≡ z - a = omega arith in
    let n : z - a ≤ to - from - a = omega arith in
    rw (drop-take a (to - from) (drop from d), drop-drop a from d, e) (take-take (z - a) (to - from - a) (drop (from + a) d) n)

-- ---- grown

pub filled-grown : {d t e : List ℕ} {at r : ℕ} → Filled d at t e r → Grown d at t e r
filled-grown {d} {t} {at = at} f = record { place = f.place; long = length-filled f; bytes = λ h. (rw f.bytes (take-fill d at t h)) }

pub grown-more : {d t u e g : List ℕ} {at m r : ℕ} → Grown d at t e m → Filled e m u g r → Grown d at (t ++ u) g r
grown-more {d} {t} {u} {e} {g} {at} {m} {r} k f =
    let n = length-append t u in
    let l = length-filled f in
    let w = k.long in
    let p = k.place in
    let q = f.place in
    record { place = omega arith; long = omega arith; bytes = λ h. bytes-more (omega arith) }
  where
    bytes-more : at + length t + length u ≤ length d → take (at + length (t ++ u)) g ≡ take at d ++ (t ++ u)
    bytes-more h =
        let w = k.long in
        let p = k.place in
        let n = length-append t u in
        let z : m ≡ at + length t = omega arith in
        let y : at + length (t ++ u) ≡ m + length u = omega arith in
        let b : take m e ≡ take at d ++ t = rw z (k.bytes (omega arith)) in
        rw (y, f.bytes) (take-fill e m u (omega arith) ∙ ap (λ (x : List ℕ). x ++ u) b ∙ append_assoc (take at d) t u)

-- in another buffer, the same up to there
pub grown-in : {d c t e : List ℕ} {at r : ℕ} → length d ≡ length c → take at d ≡ take at c → Grown d at t e r → Grown c at t e r
grown-in l p k =
    let w = k.place in
    let n = k.long in
    record { place = omega arith; long = n ∙ l; bytes = λ h. (rw (← p) (k.bytes (omega arith))) }

pub holds-grown : {d s t e : List ℕ} {p r : ℕ} → Holds d p s → Grown d p t e r → Holds e r (s ++ t)
holds-grown {d} {s} {t} {e} {p} {r} h k =
    let l = k.long in
    let n = length-append s t in
    let q = h.place in
    let x = k.place in
    record { place = omega arith; bytes = λ y. bytes-more (omega arith) }
  where
    bytes-more : length s + length t ≤ length d → take (length (s ++ t)) e ≡ s ++ t
    bytes-more y =
        let z = holds-place h (omega arith) in
        let b : take p d ≡ s = holds-bytes h (omega arith) in
        rw (length-append s t, ← z) (k.bytes (omega arith) ∙ ap (λ (x : List ℕ). x ++ t) b)
