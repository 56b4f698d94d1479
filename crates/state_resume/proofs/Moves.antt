-- Bytes moved up for a text before them, and down for what goes. Assumes nothing.
use Rattle.std.specs.Prelude.{if◌then◌else◌}
use mathlib.Core.Path.{◌≡◌, refl, sym, ap, ◌∙◌}
use mathlib.Core.Bool.{Bool, true, false, ◌&&◌}
use mathlib.Core.List.{List, [], ◌∷◌, ◌++◌}
use Prim.Native.Nat.{ℕ, zero, suc, ◌+◌, ◌-◌, ◌≤◌, ◌<◌}
use native.Mathlib.Nat.{suc-add}
use native.Mathlib.Numerals.{add-one}
use native.Mathlib.Omega.{arith}
use lib.Dec.{eqb}
use lib.ListN.{length, drop, set, get_or, length-append, length-set}
use Rattle.lent.specs.Fill.{fill, Filled}
use Rattle.lent.proofs.Laws.{fill-empty, fill_suc, fill-zero, fill_none, byte-below, rest-behind, none, Left, all, step, done}
use Rattle.machine.specs.Text.{unescape_pipes}
use Rattle.state_resume.specs.Written.{pipes_in}
use Rattle.state_resume.specs.Private.{part, Within, Grown, Packed, opens_pipe}
use Rattle.state_resume.proofs.Parts.{part_none, part-cons, length_part, filled-grown}

-- what is put before a text is part of it
set_before : (d : List ℕ) (at : ℕ) (s : List ℕ) (b : ℕ) → at < length d → set (fill d (suc at) s) at b ≡ fill d at (b ∷ s)
set_before [] at s b h = absurd (omega arith)
set_before (x ∷ d) zero s b h = rw (fill_suc, fill-zero)
set_before (x ∷ d) (suc at) s b h = rw (fill_suc, fill_suc) (ap (λ (l : List ℕ). x ∷ l) (set_before d at s b (omega arith)))

fill-before : (d : List ℕ) (at : ℕ) (s t : List ℕ) → fill (fill d (at + length s) t) at s ≡ fill d at (s ++ t)
fill-before [] at s t = rw (fill-empty, fill-empty, fill-empty)
fill-before (x ∷ d) zero [] t = rw fill_none
fill-before (x ∷ d) zero (b ∷ s) t =
    let z : 0 + length (b ∷ s) ≡ suc (0 + length s) = omega arith in
    rw (z, fill_suc, fill-zero, fill-zero) (ap (λ (l : List ℕ). b ∷ l) (fill-before d 0 s t))
fill-before (x ∷ d) (suc at) s t = rw (suc-add, fill_suc, fill_suc, fill_suc) (ap (λ (l : List ℕ). x ∷ l) (fill-before d at s t))

-- ---- up

-- from k on they are moved
pub record Rising (d : List ℕ) (from to n : ℕ) (e : List ℕ) (k : ℕ) : Type 0 where
  pub is : e ≡ fill d (k + n) (part d k to)
  pub long : length e ≡ length d
  pub low : from ≤ k
  pub high : k ≤ to

module _ (d : List ℕ) (from to n : ℕ) where
  pub up_none : from ≤ to → Rising d from to n d to
  up_none h = let z : to ≤ to = omega arith in record { is = rw (part_none d to to z) (sym (fill_none d (to + n))); long = refl; low = h; high = z }

  pub up_more : (e : List ℕ) (k : ℕ) → from < k → to + n ≤ length d → Rising d from to n e k → Rising d from to n (set e (k - 1 + n) (get_or e (k - 1) 0)) (k - 1)
  up_more e k h m v = up (k - 1) (omega arith)
    where
      up : (j : ℕ) → k ≡ suc j → Rising d from to n (set e (j + n) (get_or e j 0)) j
      up j q =
          let l = v.high in
          let z : k + n ≡ suc (j + n) = omega arith in
          let w : e ≡ fill d (suc (j + n)) (part d (suc j) to) = rw (← z, ← q) v.is in
          let x : get_or e j 0 ≡ get_or d j 0 = rw w (byte-below d (suc (j + n)) (part d (suc j) to) j (omega arith)) in
          record {
            is = rw (x, part-cons d j to (omega arith) (omega arith), w) (set_before d (j + n) (part d (suc j) to) (get_or d j 0) (omega arith));
            long = length-set e (j + n) (get_or e j 0) ∙ v.long;
            low = omega arith;
            high = omega arith;
          }

  pub up-end : (e : List ℕ) (k : ℕ) → k ≤ from → Rising d from to n e k → e ≡ fill d (from + n) (part d from to)
  up-end e k h v = let l = v.low in let q : k ≡ from = omega arith in rw q at v.is

module _ (d s : List ℕ) (from to : ℕ) where
  pub inserted : {e f : List ℕ} {r : ℕ} → Within d from to → length s ≤ length d - to → e ≡ fill d (from + length s) (part d from to) → Filled e from s f r
      → Grown d from (s ++ part d from to) f (to + length s)
  inserted w h p f =
      let o = w.ordered in
      let i = w.inside in
      let n = length-append s (part d from to) in
      let m = length_part d from to i in
      filled-grown (record { bytes = f.bytes ∙ rw p (fill-before d from s (part d from to)); place = omega arith })

  pub not-inserted : Within d from to → length d - to < length s → Grown d from (s ++ part d from to) d (length d + 1)
  not-inserted w h =
      let o = w.ordered in
      let i = w.inside in
      let n = length-append s (part d from to) in
      let m = length_part d from to i in
      record { place = omega arith; long = refl; bytes = λ k. absurd (omega arith) }

-- ---- down

abbrev kept : Bool → ℕ → List ℕ
kept gone b = if gone then [] else b ∷ []

pub keep-not : (d : List ℕ) (at b : ℕ) (gone : Bool) → gone ≡ true → Filled d at (kept gone b) d at
keep-not d at b gone p = rw p (none d at)

pub keep-it : (b : ℕ) (gone : Bool) {d e : List ℕ} {at r : ℕ} → gone ≡ false → Filled d at (b ∷ []) e r → Filled d at (kept gone b) e r
keep-it b gone p f = rw p f

pipes-next : (pipes : Bool) (b : ℕ) (bs : List ℕ) → pipes_in pipes (b ∷ bs) ≡ kept (pipes && opens_pipe (b ∷ bs)) b ++ pipes_in pipes bs
unfolding unescape_pipes
pipes-next true b bs = refl
pipes-next false b bs = refl

pipes-none : (pipes : Bool) → pipes_in pipes [] ≡ []
unfolding unescape_pipes
pipes-none true = refl
pipes-none false = refl

length-kept : (gone : Bool) (b : ℕ) → length (kept gone b) ≤ 1
length-kept true b = omega arith
length-kept false b = omega arith

pub record Packing (pipes : Bool) (d : List ℕ) (at from to : ℕ) (e : List ℕ) (r i : ℕ) : Type 0 where
  pub left : Left d at (pipes_in pipes (part d from to)) e r (pipes_in pipes (part e i to))
  pub low : at ≤ r
  pub behind : r ≤ i
  pub high : i ≤ to

module _ (pipes : Bool) (d : List ℕ) (at from to : ℕ) where
  pub pack-none : at ≤ from → Within d from to → Packing pipes d at from to d at from
  pack-none h w = record { left = all; low = omega arith; behind = h; high = w.ordered }

  pub pack-more : (e : List ℕ) (r i : ℕ) (t : Bool) {f : List ℕ} {m : ℕ} → i < to → Within d from to → Packing pipes d at from to e r i → t ≡ opens_pipe (part e i to)
      → Filled e r (if (pipes && t) then [] else get_or e i 0 ∷ []) f m → Packing pipes d at from to f m (i + 1)
  pack-more e r i t {f} {m} h w k p g =
      let l = k.left.long in
      let o = k.behind in
      let a = k.low in
      let v = w.inside in
      let q = g.place in
      let u = length-kept (pipes && t) (get_or e i 0) in
      let n : r + length (kept (pipes && t) (get_or e i 0)) ≤ suc i = omega arith in
      let c : part e i to ≡ get_or e i 0 ∷ part e (suc i) to = part-cons e i to h (omega arith) in
      let y : drop (suc i) f ≡ drop (suc i) e = rw g.bytes (rest-behind e r (kept (pipes && t) (get_or e i 0)) (suc i) n) in
      let z : pipes_in pipes (part e i to) ≡ kept (pipes && t) (get_or e i 0) ++ pipes_in pipes (part f (i + 1) to) =
      rw (p, c, add-one, y) (pipes-next pipes (get_or e i 0) (part e (suc i) to)) in
      record { left = step z k.left g; low = omega arith; behind = omega arith; high = omega arith }

  pub pack-end : (e : List ℕ) (r i : ℕ) → to ≤ i → Packing pipes d at from to e r i → Packed pipes d at from to e r
  pack-end e r i h k =
      let b = k.behind in
      let t = k.high in
      record { filled = done (rw (part_none e i to h) (pipes-none pipes)) k.left; low = k.low; high = omega arith }

-- whether the byte here goes
module _ (d : List ℕ) (i to : ℕ) where
  pub opens-none : i < to → to ≤ length d → to - i < 2 → false ≡ opens_pipe (part d i to)
  opens-none h l k = rw (part-cons d i to h l, part_none d (suc i) to (omega arith)) (sym (and_none (eqb (get_or d i 0) 92)))
    where
      and_none : (t : Bool) → (t && false) ≡ false
      and_none true = refl
      and_none false = refl

  pub opens-two : i < to → to ≤ length d → 2 ≤ to - i → (eqb (get_or d i 0) 92 && eqb (get_or d (i + 1) 0) 124) ≡ opens_pipe (part d i to)
  opens-two h l k = rw (part-cons d i to h l, part-cons d (suc i) to (omega arith) l, add-one)
