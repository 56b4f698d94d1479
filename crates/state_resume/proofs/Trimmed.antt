-- Code text: the spaces that go at its ends, and how it is written. Assumes nothing.
use Rattle.std.specs.Prelude.{if◌then◌else◌}
use mathlib.Core.Path.{◌≡◌, refl, sym, ap, ◌∙◌}
use mathlib.Core.Bool.{Bool, true, false, true≢false, not, ◌&&◌}
use mathlib.Core.List.{List, [], ◌∷◌, ◌++◌}
use Prim.Native.Nat.{ℕ, zero, suc, ◌+◌, ◌-◌, ◌≤◌, ◌<◌}
use native.Mathlib.Numerals.{add-one}
use native.Mathlib.Omega.{arith}
use borrow.Author.Tests.{eq-eqb, ne_eqb}
use lib.Dec.{eqb}
use lib.ListN.{length, take, get_or, length-take}
use lib.Seq.{take_all, take-take, take_at}
use Rattle.lent.specs.Fill.{Filled}
use Rattle.lent.proofs.Laws.{length-filled, take-fill}
use Rattle.machine.specs.Buffers.{last_or}
use Rattle.machine.specs.Text.{trim_code}
use Rattle.state_buffers.specs.declared.Buffers.{Buffers}
use Rattle.state_buffers.specs.Stand.{Drops, Resumes}
use Rattle.state_buffers.proofs.Laws.{with_page, with_end}
use Rattle.state_resume.specs.Written.{pipes_in, code_in}
use Rattle.state_resume.specs.Private.{part, Within, Packed, all_spaces, cut_of, Cut}
use Rattle.state_resume.proofs.Parts.{part_none, part-cons, length_part, part-is, part-part, filled-grown, grown-in}
use Rattle.state_resume.proofs.Written.{disordered, outside, on-page, in-capture}

-- ---- all spaces

module _ (d : List ℕ) (from to : ℕ) where
  pub spaces-more : (i : ℕ) → i < to → to ≤ length d → get_or d i 0 ≡ 32 → all_spaces (part d i to) ≡ all_spaces (part d from to) → all_spaces (part d (i + 1) to) ≡ all_spaces (part d from to)
  spaces-more i h l p q = sym (rw (part-cons d i to h l, p, add-one)) ∙ q

  pub spaces-not : (i : ℕ) → i < to → to ≤ length d → (get_or d i 0 ≡ 32 → ⊥) → all_spaces (part d i to) ≡ all_spaces (part d from to) → false ≡ all_spaces (part d from to)
  spaces-not i h l p q = sym (rw (part-cons d i to h l, ne_eqb 32 (get_or d i 0) (λ e. p (sym e)))) ∙ q

  pub spaces-end : (i : ℕ) → to ≤ i → all_spaces (part d i to) ≡ all_spaces (part d from to) → true ≡ all_spaces (part d from to)
  spaces-end i h q = sym (rw (part_none d i to h)) ∙ q

-- ---- the spaces that go

last-part : (d : List ℕ) (from n x : ℕ) → from + n ≤ length d → 0 < n → last_or x (part d from (from + n)) ≡ get_or d (from + n - 1) 0
last-part d from zero x l h = absurd (omega arith)
last-part d from (suc zero) x l h =
    let z : from + 1 - 1 ≡ from = omega arith in
    rw (part-cons d from (from + 1) (omega arith) l, part_none d (suc from) (from + 1) (omega arith), z)
last-part d from (suc (suc n)) x l h =
    let z : from + suc (suc n) ≡ suc from + suc n = omega arith in
    rw (part-cons d from (from + suc (suc n)) (omega arith) l, z) (last-part d (suc from) (suc n) (get_or d from 0) (omega arith) (omega arith))

module _ (d : List ℕ) (from to : ℕ) (w : Within d from to) where
  pub cut-none : to ≤ from → Cut d from to 0
  cut-none h = let o = w.ordered in record { is = rw (part_none d from to h); fits = omega arith }

  module _ (h : from < to) where
    -- by the first byte, the last, and whether all are spaces
    cut-is : (a b c : Bool) → eqb (get_or d from 0) 32 ≡ a → eqb (get_or d (to - 1) 0) 32 ≡ b → all_spaces (part d (suc from) to) ≡ c → cut_of (part d from to) ≡ (if a && b && not c then 1 else 0)
    cut-is a b c p q r =
        let z : from + (to - from) ≡ to = omega arith in
        let y : last_or (get_or d from 0) (get_or d from 0 ∷ part d (suc from) to) ≡ get_or d (to - 1) 0 =
        rw (← part-cons d from to h w.inside) (rw z at (last-part d from (to - from) (get_or d from 0) (rw z w.inside) (omega arith))) in
        rw (part-cons d from to h w.inside, p, y, q, r)

    pub cut-first : (get_or d from 0 ≡ 32 → ⊥) → Cut d from to 0
    cut-first p = record { is = sym (cut-is false (eqb (get_or d (to - 1) 0) 32) (all_spaces (part d (suc from) to)) (ne_eqb (get_or d from 0) 32 p) refl refl); fits = omega arith }

    module _ (p : get_or d from 0 ≡ 32) where
      pub cut-last : (get_or d (to - 1) 0 ≡ 32 → ⊥) → Cut d from to 0
      cut-last q = record { is = sym (cut-is true false (all_spaces (part d (suc from) to)) (eq-eqb (get_or d from 0) 32 p) (ne_eqb (get_or d (to - 1) 0) 32 q) refl); fits = omega arith }

      module _ (q : get_or d (to - 1) 0 ≡ 32) (t : Bool) (r : t ≡ all_spaces (part d from to)) where
        spaces : all_spaces (part d (suc from) to) ≡ t
        spaces = sym (r ∙ rw (part-cons d from to h w.inside, p))

        cut_by : cut_of (part d from to) ≡ (if not t then 1 else 0)
        cut_by = cut-is true true t (eq-eqb (get_or d from 0) 32 p) (eq-eqb (get_or d (to - 1) 0) 32 q) spaces

        pub cut_all : t ≡ true → Cut d from to 0
        cut_all s = record { is = sym (cut_by ∙ rw s); fits = omega arith }

        pub cut-one : t ≡ false → Cut d from to 1
        cut-one s = record { is = sym (cut_by ∙ rw s); fits = two (to - suc from) refl }
          where
            two : (k : ℕ) → to - suc from ≡ k → from + 1 + 1 ≤ to
            two zero z = absurd (true≢false ((rw (part_none d (suc from) to (omega arith)) at spaces) ∙ s))
            two (suc k) z = omega arith

-- ---- trimmed

trim-is : (c : List ℕ) → trim_code c ≡ part c (cut_of c) (length c - cut_of c)
unfolding trim_code
trim-is [] = refl
trim-is (b ∷ bs) = go (eqb b 32 && eqb (last_or b bs) 32 && not (all_spaces bs))
  where
    go : (t : Bool) → (if t then take (length bs - 1) bs else b ∷ bs) ≡ part (b ∷ bs) (if t then 1 else 0) (length (b ∷ bs) - (if t then 1 else 0))
    go true = let z : suc (length bs) - 1 - 1 ≡ length bs - 1 = omega arith in rw z
    go false = let z : length (b ∷ bs) ≤ suc (length bs) - 0 - 0 = omega arith in sym (take_all (suc (length bs) - 0 - 0) (b ∷ bs) z)

module _ (d : List ℕ) (from to n : ℕ) where
  trimmed : Within d from to → Cut d from to n → trim_code (part d from to) ≡ part d (from + n) (to - n)
  trimmed w k =
      let o = w.ordered in
      let f = k.fits in
      let l = length_part d from to w.inside in
      let z : from + (length (part d from to) - n) ≡ to - n = omega arith in
      trim-is (part d from to) ∙ rw (← k.is) (part-part d from to n (length (part d from to) - n) (omega arith) ∙ rw z)

-- ---- as the code has it

module _ (t : Bool) (b : Buffers) (captures starts out : List ℕ) where
  pub code-disordered : b.end < b.start → Resumes (code_in t) b starts captures out b captures out
  code-disordered = disordered (code_in t) b captures starts out

  pub code-outside : length captures < b.end → Resumes (code_in t) b starts captures out b captures out
  code-outside = outside (code_in t) b captures starts out

  module _ {e : List ℕ} {end n : ℕ} (l : b.end ≤ length captures) (p : Packed t captures b.start b.start b.end e end) (q : Cut e b.start end n) where
    code-text : take end e ≡ take b.start captures ++ pipes_in t (part captures b.start b.end)
    code-text =
        let w = p.filled.place in
        let h = p.high in
        let z : end ≡ b.start + length (pipes_in t (part captures b.start b.end)) = omega arith in
        rw (z, p.filled.bytes) (take-fill captures b.start (pipes_in t (part captures b.start b.end)) (omega arith))

    code-starts : b.start ≡ length (take b.start captures)
    code-starts = let h = p.high in let g = p.low in simp length-take (omega arith)

    code_is : code_in t (part captures b.start b.end) ≡ part e (b.start + n) (end - n)
    code_is =
        let m = length-filled p.filled in
        let h = p.high in
        ap trim_code (sym (part-is e (take b.start captures) (pipes_in t (part captures b.start b.end)) b.start end code-text code-starts))
        ∙ trimmed e b.start end n (record { ordered = p.low; inside = omega arith }) q

    code_below : take b.start e ≡ take b.start captures
    code_below = sym (take-take b.start end e p.low) ∙ ap (take b.start) code-text ∙ take_at (take b.start captures) (pipes_in t (part captures b.start b.end)) b.start (sym code-starts)

    module _ (r : Buffers) (k : Drops b starts r) where
      pub code-page : {g : List ℕ} {m : ℕ} → r.depth ≡ 0 → Filled out r.page (part e (b.start + n) (end - n)) g m → Resumes (code_in t) b starts captures out (with_page m r) e g
      code-page {g} {m} d f = on-page (code_in t) b captures starts out r k e g m d (length-filled p.filled) (rw code_is f)

      pub code-capture : {g : List ℕ} {m : ℕ} → (r.depth ≡ 0 → ⊥) → Packed false e b.start (b.start + n) (end - n) g m → Resumes (code_in t) b starts captures out (with_end m r) g out
      code-capture {g} {m} d f = in-capture (code_in t) b captures starts out r k g m d (grown-in (length-filled p.filled) code_below (rw code_is (filled-grown f.filled)))
