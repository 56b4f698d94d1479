-- What holds of what bytes come to: the buffers keep their lengths, and what is left is no whole block that is due. Assumes nothing.
use Rattle.std.proofs.Common.{◌≡◌, refl, sym, ap, ◌∙◌, ◌⊎◌, inl, inr, ⊎_elim, Bool, true, false, ◌&&◌, List, [], ℕ, ◌-◌, ◌*◌, ◌≤◌, ◌<◌, arith, le-leb, leb-true, leb, length, drop, length-drop, drop_of_length-le, Ok, Err}
use Rattle.std.proofs.Math.Decide.{dec_le}
use Rattle.lent.proofs.Laws.{and_left, and_right}
use Rattle.bundle_block.specs.Block.{Verdict}
use Rattle.bundle_read.specs.Bundle.{judge_header}
use Rattle.bundle_known.specs.declared.Known.{Known}
use Rattle.bundle_known.specs.Known.{said_in, whole_of, taken, came_then, fill_taken, left_of, Came, goes, stops, ◌then◌, unless, events_of, runs_of, advance_of}
use Rattle.bundle_known.proofs.Runs.{taken-all, length-filled}
use Rattle.bundle_known.proofs.Resume.{runs-form, text_taken, behind_text, left_text, events_taken, behind_events, begun-runs, no_block, header-there, text-done, events-done, runs-short}

pub record Stepped (k : Known) (t e l : List ℕ) (k' : Known) (t' e' l' : List ℕ) : Type 0 where
  pub text-long : length t' ≡ length t
  pub events-long : length e' ≡ length e
  pub no-block-left : (whole_of k' ≡ true) ⊎ (length l' < 512)
  -- before block 0 nothing is taken
  pub unbegun : k'.begun ≡ false → (k' ≡ k) × (t' ≡ t) × (e' ≡ e) × (l' ≡ l)

both_true : (a b c : Bool) → a ≡ true → b ≡ true → c ≡ true → (a && b && c) ≡ true
both_true a b c p q r = rw (p, q, r)

module _ (k : Known) (t e l : List ℕ) where
  pub then-goes : (c : Came) → (c then goes) ≡ c
  then-goes (goes k t e l) = refl
  then-goes (stops r) = refl

  -- what is left behind both runs, and whether all has come
  no-block-behind : k.begun ≡ true → (whole_of (behind_events k t e l) ≡ true) ⊎ (length (left_of k.events_came k.events (left_text k t e l)) < 512)
  unfolding behind_events behind_text left_text
  no-block-behind p =
      let n = length-drop (512 * taken k.events_came k.events (left_text k t e l)) (left_text k t e l) in
      ⊎_elim (λ h. inr (omega (arith, n)))
      (λ h.
      ⊎_elim (λ g. inr g)
      (λ g. inl (both_true k.begun (leb k.text (came_then k.text_came k.text l)) (leb k.events (came_then k.events_came k.events (left_text k t e l))) p (le-leb _ _ h) (le-leb _ _ g)))
      (taken-all k.events_came k.events (left_text k t e l)))
      (taken-all k.text_came k.text l)

  module _ (k' : Known) (t' e' l' : List ℕ) where
    abbrev Kept : Type 0
    Kept = (length t' ≡ length t) × (length e' ≡ length e) × ((whole_of k' ≡ true) ⊎ (length l' < 512)) × (k'.begun ≡ true) × (l' ≡ left_of k.events_came k.events (left_text k t e l))

    kept : k.begun ≡ true → fill_taken k.text_came k.text t l ≡ t' → fill_taken k.events_came k.events e (left_text k t e l) ≡ e'
        → left_of k.events_came k.events (left_text k t e l) ≡ l' → behind_events k t e l ≡ k' → Kept
    unfolding behind_events behind_text
    kept p a b c d = (
      ap length (sym a) ∙ length-filled k.text_came k.text l t,
      ap length (sym b) ∙ length-filled k.events_came k.events (left_text k t e l) e,
      rw (← c, ← d) (no-block-behind p),
      rw (← d) p,
      sym c,
    )

    runs-stepped : k.begun ≡ true → runs_of k t e l ≡ goes k' t' e' l' → Kept
    runs-stepped p q = by (text_taken k t e l) (events_taken k t e l) (sym (runs-form k t e l goes) ∙ then-goes (runs_of k t e l) ∙ q)
      where
        by : (u v : Verdict)
            → unless u (unless v (goes (behind_events k t e l) (fill_taken k.text_came k.text t l) (fill_taken k.events_came k.events e (left_text k t e l)) (left_of k.events_came k.events (left_text k t e l))))
            ≡ goes k' t' e' l'
            → Kept
        by (Ok o) (Ok o') r = kept p (cc) (cc) (cc) (cc)
        by (Ok o) (Err x) r = let z : ◌≡◌ {A = ℕ} 0 1 = cc in absurd (omega arith)
        by (Err x) v r = let z : ◌≡◌ {A = ℕ} 0 1 = cc in absurd (omega arith)

    short-stepped : k.begun ≡ false → length l < 512 → goes k t e l ≡ goes k' t' e' l' → Stepped k t e l k' t' e' l'
    short-stepped p h q =
        let a : k ≡ k' = cc in
        let b : t ≡ t' = cc in
        let c : e ≡ e' = cc in
        let d : l ≡ l' = cc in
        record { text-long = rw b; events-long = rw c; no-block-left = inr (rw (← d) h); unbegun = λ x. (sym a, sym b, sym c, sym d) }

    kept-stepped : length t' ≡ length t → length e' ≡ length e → (whole_of k' ≡ true) ⊎ (length l' < 512) → k'.begun ≡ true → Stepped k t e l k' t' e' l'
    kept-stepped a b c d = record { text-long = a; events-long = b; no-block-left = c; unbegun = λ x. let z : ◌≡◌ {A = ℕ} 0 1 = cc in absurd (omega arith) }

header-stepped : (k : Known) (t e l : List ℕ) (k' : Known) (t' e' l' : List ℕ) (v : Verdict) → unless v (runs_of (said_in l) t e (drop 512 l)) ≡ goes k' t' e' l' → Stepped k t e l k' t' e' l'
header-stepped k t e l k' t' e' l' (Ok o) q = let s = runs-stepped (said_in l) t e (drop 512 l) k' t' e' l' refl q in kept-stepped k t e l k' t' e' l' s.0 s.1 s.2 s.3
header-stepped k t e l k' t' e' l' (Err r) q = let z : ◌≡◌ {A = ℕ} 0 1 = cc in absurd (omega arith)

pub stepped : (k : Known) (t e l : List ℕ) (k' : Known) (t' e' l' : List ℕ) → advance_of k t e l ≡ goes k' t' e' l' → Stepped k t e l k' t' e' l'
stepped k t e l k' t' e' l' q = by k.begun refl
  where
    by : (x : Bool) → k.begun ≡ x → Stepped k t e l k' t' e' l'
    by true p = let s = runs-stepped k t e l k' t' e' l' p (sym (begun-runs k t e l p) ∙ q) in kept-stepped k t e l k' t' e' l' s.0 s.1 s.2 s.3
    by false p =
        elim (dec_le 512 (length l)) [
          | yes h ↦ header-stepped k t e l k' t' e' l' (judge_header l) (sym (header-there k t e l p h) ∙ q)
          | no h ↦ let n : length l < 512 = omega arith in short-stepped k t e l k' t' e' l' p n (sym (no_block k t e l p n) ∙ q)
        ]

-- ---- all has come: nothing more is taken

whole_parts : (k : Known) → whole_of k ≡ true → (k.begun ≡ true) × (k.text ≤ k.text_came) × (k.events ≤ k.events_came)
whole_parts k p =
    let a = and_left (k.begun && leb k.text k.text_came) (leb k.events k.events_came) p in (
      and_left k.begun (leb k.text k.text_came) a,
      leb-true k.text k.text_came (and_right k.begun (leb k.text k.text_came) a),
      leb-true k.events k.events_came (and_right (k.begun && leb k.text k.text_came) (leb k.events k.events_came) p),
    )

pub whole-stays : (k : Known) (t e l : List ℕ) → whole_of k ≡ true → advance_of k t e l ≡ goes k t e l
unfolding runs_of
whole-stays k t e l p =
    let w = whole_parts k p in
    begun-runs k t e l w.0 ∙ ap (λ (c : Came). c then events_of) (text-done k t e l w.1) ∙ events-done k t e l w.2

pub whole-begun : (k : Known) → whole_of k ≡ true → k.begun ≡ true
whole-begun k p = (whole_parts k p).0

-- ---- not all has come: a whole block is taken

module _ (k : Known) (t e l : List ℕ) where
  length-behind : length (left_of k.events_came k.events (left_text k t e l)) ≡ length (left_text k t e l) - 512 * taken k.events_came k.events (left_text k t e l)
  length-behind = length-drop (512 * taken k.events_came k.events (left_text k t e l)) (left_text k t e l)

  length-text : length (left_text k t e l) ≡ length l - 512 * taken k.text_came k.text l
  unfolding left_text
  length-text = length-drop (512 * taken k.text_came k.text l) l

  no_more : length l ≤ 512 → (length l < 512 → length l ≡ 0) → (k.text ≤ k.text_came → k.events ≤ k.events_came → length l ≡ 0) → left_of k.events_came k.events (left_text k t e l) ≡ []
  no_more h p q =
      let a = length-behind in
      let b = length-text in
      drop_of_length-le (left_of k.events_came k.events (left_text k t e l)) {i = 0}
      (elim (dec_le 512 (length l)) [
        | yes m ↦
            elim (dec_le k.text k.text_came) [
              | yes i ↦
                  elim (dec_le k.events k.events_came) [
                    | yes j ↦ let z = q i j in absurd (omega arith)
                    | no j ↦ omega arith
                  ]
              | no i ↦ omega arith
            ]
        | no m ↦ let z = p (omega arith) in omega arith
      ])

some-due : (k : Known) → whole_of k ≡ false → k.begun ≡ true → k.text ≤ k.text_came → k.events ≤ k.events_came → ⊥
some-due k w p h i =
    let x = both_true k.begun (leb k.text k.text_came) (leb k.events k.events_came) p (le-leb _ _ h) (le-leb _ _ i) in
    let z : ◌≡◌ {A = ℕ} 0 1 = cc in
    omega arith

header-taken : (t e l : List ℕ) (k' : Known) (t' e' l' : List ℕ) (v : Verdict) → length l ≡ 512 → unless v (runs_of (said_in l) t e (drop 512 l)) ≡ goes k' t' e' l' → l' ≡ []
header-taken t e l k' t' e' l' (Ok o) h q =
    let n : length (drop 512 l) ≡ 0 = rw length-drop (omega arith) in
    (runs-stepped (said_in l) t e (drop 512 l) k' t' e' l' refl q).4
    ∙ no_more (said_in l) t e (drop 512 l) (omega arith) (λ x. n) (λ x y. n)
header-taken t e l k' t' e' l' (Err r) h q = let z : ◌≡◌ {A = ℕ} 0 1 = cc in absurd (omega arith)

pub block-taken : (k : Known) (t e l : List ℕ) (k' : Known) (t' e' l' : List ℕ) → whole_of k ≡ false → length l ≡ 512 → advance_of k t e l ≡ goes k' t' e' l' → l' ≡ []
block-taken k t e l k' t' e' l' w h q = by k.begun refl
  where
    by : (x : Bool) → k.begun ≡ x → l' ≡ []
    by true p =
        (runs-stepped k t e l k' t' e' l' p (sym (begun-runs k t e l p) ∙ q)).4
        ∙ no_more k t e l (omega arith) (λ x. absurd (omega arith)) (λ i j. absurd (some-due k w p i j))
    by false p = header-taken t e l k' t' e' l' (judge_header l) h (sym (header-there k t e l p (omega arith)) ∙ q)

-- ---- less than a block: nothing is taken

pub short-stays : (k : Known) (t e l : List ℕ) → length l < 512 → advance_of k t e l ≡ goes k t e l
short-stays k t e l h = by k.begun refl
  where
    by : (x : Bool) → k.begun ≡ x → advance_of k t e l ≡ goes k t e l
    by true p = begun-runs k t e l p ∙ runs-short k t e l h
    by false p = no_block k t e l p h
