-- What the inner functions go by: a refusal, what is kept of a part, and a rest that becomes a block. Assumes nothing.
use Rattle.std.proofs.Common.{Result, Ok, Some, None, Err, ◌≡◌, refl, sym, ap, ◌∙◌, ◌⊎◌, ⊎_elim, Bool, true, false, not, ◌||◌, List, [], ◌∷◌, ◌++◌, append_assoc, append-nil, ℕ, suc, ◌+◌, ◌-◌, ◌≤◌, ◌<◌, min, zero-add, arith, lt-ltb, ltb, length, take, drop, length-append, length-take, drop_of_length-le, take-append-drop, take_all}
use Rattle.std.proofs.Math.Nat.{sub-zero}
use Rattle.lent.specs.Fill.{fill, zeros, Filled}
use Rattle.lent.proofs.Laws.{take-fill, fill-cut}
use Rattle.bundle_block.specs.declared.Refusal.{Refusal}
use Rattle.bundle_read.proofs.Bundle.{rest}
use Rattle.bundle_known.specs.declared.Known.{Known}
use Rattle.bundle_known.specs.declared.Step.{Step}
use Rattle.bundle_known.specs.Known.{unknown, whole_of, Came, goes, stops, advance_of}
use Rattle.bundle_known.specs.Step.{Advanced}
use Rattle.bundle_known.proofs.Resume.{advance-both}
use Rattle.bundle_known.proofs.Stepped.{stepped, block-taken, short-stays}
use Rattle.bundle_parts.specs.declared.State.{State}
use Rattle.bundle_parts.specs.Feed.{standing, is_empty, refused_at, kept, settled}
use Rattle.bundle_parts.specs.Private.{cleared_unless}

-- ---- both buffers cleared

pub wiped : (d : List ℕ) {d' : List ℕ} → d' ≡ take 0 d ++ zeros (length d - 0) → d' ≡ zeros (length d)
wiped d p = p ∙ rw sub-zero

pub cleared : (d : List ℕ) {d' : List ℕ} (begun : Bool) → begun ≡ false → d' ≡ zeros (length d) → d' ≡ cleared_unless begun d
cleared d begun b p = p ∙ rw b

pub refused : (t e : List ℕ) {t' e' : List ℕ} {s : State} {k : Known} (r : Refusal) → (t' ≡ zeros (length t)) × (e' ≡ zeros (length e)) → k ≡ unknown
    → s ≡ record { known = k; held = 0; over = false; progress = Some (Err r) } → (rest : List ℕ) → standing s rest t' e' ≡ refused_at t e r
refused t e r p m n rest = rw (n, m, p.0, p.1)

-- ---- what is kept

some : (l : List ℕ) → ltb 0 (length l) ≡ not (is_empty l)
some [] = refl
some (b ∷ l) = lt-ltb 0 (suc (length l)) (omega arith)

module _ (over : Bool) (k : Known) (left : List ℕ) {w : Bool} (p : w ≡ whole_of k) where
  pub keep-none : {s : State} (rest : List ℕ) → w ≡ true → s ≡ record { known = k; held = 0; over = over || ltb 0 (length left); progress = None }
      → (t e : List ℕ) → standing s rest t e ≡ kept over k t e left
  unfolding kept
  keep-none rest q r t e = rw (r, ← p, q, some left)

  pub keep_left : {d rest : List ℕ} {end : ℕ} → w ≡ false → (whole_of k ≡ true) ⊎ (length left < 512) → length d ≡ 512 → Filled d 0 left rest end
      → (t e : List ℕ) → standing (record { known = k; held = length left; over = over; progress = None }) rest t e ≡ kept over k t e left
  unfolding kept
  keep_left {d} q h n f t e =
      ⊎_elim (λ x. let z : ◌≡◌ {A = ℕ} 0 1 = cc in absurd (omega arith))
      (λ m.
      let a : min (length left) 511 ≡ length left = omega arith in
      let b : take (length left) (fill d 0 left) ≡ left = rw zero-add at (take-fill d 0 left (omega arith)) in
      rw (← p, q, f.bytes, a, b))
      h

-- ---- a part

-- a refusal says the same of buffers of the same lengths
pub settled-long : (over : Bool) (t e t' e' : List ℕ) (c : Came) → length t' ≡ length t → length e' ≡ length e → settled over t' e' c ≡ settled over t e c
settled-long over t e t' e' (goes k a b l) p q = refl
settled-long over t e t' e' (stops r) p q = rw (p, q)

module _ (over : Bool) (k : Known) (t e l t' e' : List ℕ) (step : Result Step Refusal) (h : Advanced k t e l t' e' step) where
  pub part-stops : (s : State) {r : Refusal} {t'' e'' : List ℕ} (rest : List ℕ) → step ≡ Err r → length t' ≡ length t → length e' ≡ length e
      → ((x : List ℕ) → standing s x t'' e'' ≡ refused_at t' e' r) → standing s rest t'' e'' ≡ settled over t e (advance_of k t e l)
  part-stops s rest g p q f = f rest ∙ rw (← h.came, g, p, q)

  module _ {s : Step} (g : step ≡ Ok s) where
    goes_on : goes s.known t' e' (drop s.taken l) ≡ advance_of k t e l
    goes_on = (rw g at h.came)

    pub part-within : s.taken ≤ length l
    part-within = rw g at h.within

    pub part_left : (whole_of s.known ≡ true) ⊎ (length (take (length l - s.taken) (drop s.taken l)) < 512)
    part_left = rw (rest l s.taken) (stepped k t e l s.known t' e' (drop s.taken l) (sym goes_on)).no-block-left

    pub part-kept : (z : State) (rest' : List ℕ) → ((t e : List ℕ) → standing z rest' t e ≡ kept over s.known t e (take (length l - s.taken) (drop s.taken l))) → standing z rest' t' e' ≡ settled over t e (advance_of k t e l)
    part-kept z rest' f = f t' e' ∙ rw (rest l s.taken, ← goes_on)

-- ---- a block, and what follows it

module _ (over : Bool) (k : Known) (t e d l t' e' : List ℕ) (step : Result Step Refusal) (g : Advanced k t e d t' e' step) where
  pub block-stops : (s : State) {r : Refusal} {t'' e'' : List ℕ} (rest : List ℕ) → step ≡ Err r → length t' ≡ length t → length e' ≡ length e → ((x : List ℕ) → standing s x t'' e'' ≡ refused_at t' e' r)
      → standing s rest t'' e'' ≡ settled over t e (advance_of k t e (d ++ l))
  block-stops s rest p x y z = part-stops over k t e d t' e' step g s rest p x y z ∙ rw (advance-both k t e d l, ← (rw p at g.came))

  pub block_goes : (s : State) {n : Step} (rest' : List ℕ) {t'' e'' : List ℕ} → length d ≡ 512 → whole_of k ≡ false → step ≡ Ok n
      → standing s rest' t'' e'' ≡ settled over t' e' (advance_of n.known t' e' l) → standing s rest' t'' e'' ≡ settled over t e (advance_of k t e (d ++ l))
  block_goes s {n} rest' long w p z =
      let a = goes_on over k t e d t' e' step g p in
      let x = stepped k t e d n.known t' e' (drop n.taken d) (sym a) in
      let c = block-taken k t e d n.known t' e' (drop n.taken d) w long (sym a) in
      z ∙ settled-long over t e t' e' (advance_of n.known t' e' l) x.text-long x.events-long ∙ rw (advance-both k t e d l, ← a, c)

-- ---- a rest and a part behind it

module _ (d part d' : List ℕ) (held end : ℕ) (h : held < 512) (long : length d ≡ 512) (f : Filled d held part d' end) where
  -- less than a block
  join-held : end < 512 → take (min end 511) d' ≡ take held d ++ part
  join-held m =
      let p = f.place in
      let a : min end 511 ≡ held + length part = omega arith in
      rw (a, f.bytes) (take-fill d held part (omega arith))

  -- a whole block, and what follows it
  join-block : 512 ≤ end → d' ≡ take held d ++ take (512 - held) part
  unfolding fill
  join-block m =
      let p = f.place in
      let need = 512 - held in
      let q : held + need ≡ length d = omega arith in
      let k : need ≤ length part = omega arith in
      let g : length (take held d ++ take need part) ≡ length d = simp (length-append, length-take) (omega arith) in
      let w : length (take need part) ≡ need = simp length-take (omega arith) in
      let y : length d ≤ held + length (take need part) = omega arith in
      let z : drop (held + length (take need part)) d ≡ [] = drop_of_length-le d y in
      f.bytes ∙ sym (fill-cut d held need part q k) ∙ rw (z, append-nil) (take_all (length d) (take held d ++ take need part) (omega arith))

  join-all : 512 ≤ end → d' ++ drop (512 - held) part ≡ take held d ++ part
  join-all m =
      ap (λ (x : List ℕ). x ++ drop (512 - held) part) (join-block m)
      ∙ append_assoc (take held d) (take (512 - held) part) (drop (512 - held) part)
      ∙ ap (λ (x : List ℕ). take held d ++ x) (take-append-drop (512 - held) part)

  module _ (over : Bool) (k : Known) (t e : List ℕ) where
    pub join-waits : whole_of k ≡ false → end < 512 → standing (record { known = k; held = end; over = over; progress = None }) d' t e ≡ settled over t e (advance_of k t e (take held d ++ part))
    unfolding kept
    join-waits w m =
        let p = f.place in
        let b : length (take held d ++ part) < 512 = simp (length-append, length-take) (omega arith) in
        rw (join-held m, short-stays k t e (take held d ++ part) b, w)

    pub join_goes : (s : State) (rest' : List ℕ) {t' e' : List ℕ} → 512 ≤ end → standing s rest' t' e' ≡ settled over t e (advance_of k t e (d' ++ take (length part - (512 - held)) (drop (512 - held) part)))
        → standing s rest' t' e' ≡ settled over t e (advance_of k t e (take held d ++ part))
    join_goes s rest' m z = z ∙ rw (rest part (512 - held), join-all m)
