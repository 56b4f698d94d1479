-- At the end: all blocks and no byte behind them have come exactly where the length and the count are right. Assumes nothing.
use Rattle.std.proofs.Common.{◌≡◌, refl, ◌∙◌, true, false, ◌&&◌, List, [], ◌∷◌, ℕ, ◌+◌, ◌-◌, ◌*◌, ◌/◌, ◌%◌, ◌≤◌, ◌<◌, min, arith, lt-ltb, le-ltb, le-leb, eq-eqb, ne_eqb, length, length-drop, Ok, Err}
use Rattle.std.proofs.Math.Decide.{dec_le}
use Rattle.std.proofs.Math.Nat.{sub-zero}
use borrow.Author.Tests.{lt-leb}
use Rattle.bundle_block.specs.declared.Refusal.TheVariants.{Broken}
use Rattle.bundle_block.specs.Block.{◌before◌}
use Rattle.bundle_read.specs.Bundle.{blocks_for, text_length, event_length, text_blocks, event_blocks, judge_length, judge_count}
use Rattle.bundle_known.specs.Known.{whole_of, taken}
use Rattle.bundle_parts.specs.Late.{text_blocks_came, event_blocks_came}
use Rattle.bundle_parts.specs.Feed.{is_empty}
use Rattle.bundle_parts.proofs.Late.{known_in, left_in, behind, length-behind, texts-taken, records-taken}

empty : (s : List ℕ) → length s ≡ 0 → is_empty s ≡ true
empty [] p = refl
empty (b ∷ s) p = absurd (omega arith)

not-empty : (s : List ℕ) → 0 < length s → is_empty s ≡ false
not-empty [] p = absurd (omega arith)
not-empty (b ∷ s) p = refl

-- ---- the verdict on length and count

abbrev pub asked : List ℕ → ℕ
asked l = 512 * (1 + text_blocks l + event_blocks l)

module _ (l : List ℕ) where
  pub exact-good : length l ≡ asked l → (judge_length l before judge_count l) ≡ Ok tt
  unfolding judge_length judge_count
  exact-good p =
      let a : 0 < length l = omega arith in
      let b : length l % 512 ≡ 0 = omega arith in
      let c : length l / 512 ≡ 1 + text_blocks l + event_blocks l = omega arith in
      rw (lt-ltb 0 (length l) a, b, eq-eqb (length l / 512) (1 + text_blocks l + event_blocks l) c)

  pub other-bad : (length l ≡ asked l → ⊥) → (judge_length l before judge_count l) ≡ Err (Broken 0)
  unfolding judge_length judge_count
  other-bad p =
      elim (dec_le (length l % 512) 0) [
        | yes a ↦
            let b : length l % 512 ≡ 0 = omega arith in
            let c = ne_eqb (length l / 512) (1 + text_blocks l + event_blocks l) (λ q. p (omega arith)) in
            (elim (dec_le (length l) 0) [
              | yes d ↦ rw (le-ltb 0 (length l) d)
              | no d ↦ let f : 0 < length l = omega arith in rw (lt-ltb 0 (length l) f, b, c)
            ])
        | no a ↦
            let b = ne_eqb (length l % 512) 0 (λ q. a (omega arith)) in
            let f : 0 < length l = omega arith in
            rw (lt-ltb 0 (length l) f, b)
      ]

-- ---- what is known then

-- so many blocks hold all, or not
held_all : (total n came : ℕ) → came ≡ min (500 * n) total → n ≡ blocks_for 500 total → total ≤ came
held_all total n came p q = omega arith

held-fewer : (total n came : ℕ) → came ≡ min (500 * n) total → n < blocks_for 500 total → came < total
held-fewer total n came p q = omega arith

module _ (l : List ℕ) (h : 512 ≤ length l) where
  text-came : (known_in l h).text_came ≡ min (500 * text_blocks_came l) (text_length l)
  text-came = let s = sub-zero (text_length l) in let n = texts-taken l h in omega arith

  events-came : (known_in l h).events_came ≡ min (500 * event_blocks_came l) (event_length l)
  events-came = let s = sub-zero (event_length l) in let n = records-taken l h in omega arith

  length-left : length (left_in l h) ≡ length l - 512 - 512 * text_blocks_came l - 512 * event_blocks_came l
  length-left = length-drop (512 * taken 0 (event_length l) (behind l h)) (behind l h) ∙ rw (records-taken l h, length-behind l h)

  pub texts-all : asked l ≤ length l → text_blocks_came l ≡ text_blocks l
  texts-all p = omega arith

  pub records-all : asked l ≤ length l → event_blocks_came l ≡ event_blocks l
  records-all p = omega arith

  records-fewer : length l < asked l → text_blocks l ≤ length l / 512 - 1 → event_blocks_came l < event_blocks l
  records-fewer p w = omega arith

  all-came : asked l ≤ length l → whole_of (known_in l h) ≡ true
  all-came p =
      let i = held_all (text_length l) (text_blocks_came l) (known_in l h).text_came text-came (texts-all p) in
      let j = held_all (event_length l) (event_blocks_came l) (known_in l h).events_came events-came (records-all p) in
      rw (le-leb (text_length l) (known_in l h).text_came i, le-leb (event_length l) (known_in l h).events_came j)

  not-all-came : length l < asked l → whole_of (known_in l h) ≡ false
  not-all-came p =
      elim (dec_le (text_blocks l) (length l / 512 - 1)) [
        | yes w ↦
            let i = held_all (text_length l) (text_blocks_came l) (known_in l h).text_came text-came (omega arith) in
            let j = held-fewer (event_length l) (event_blocks_came l) (known_in l h).events_came events-came (records-fewer p w) in
            rw (le-leb (text_length l) (known_in l h).text_came i, lt-leb (event_length l) (known_in l h).events_came j)
        | no w ↦
            let i = held-fewer (text_length l) (text_blocks_came l) (known_in l h).text_came text-came (omega arith) in
            rw (lt-leb (text_length l) (known_in l h).text_came i)
      ]

  left-more : asked l ≤ length l → length (left_in l h) ≡ length l - asked l
  left-more p = length-left ∙ rw (texts-all p, records-all p) (omega arith)

  pub exact-came : length l ≡ asked l → (whole_of (known_in l h) ≡ true) × (is_empty (left_in l h) ≡ true)
  exact-came p =
      let n = left-more (omega arith) in
      (all-came (omega arith), empty (left_in l h) (omega arith))

  -- too few, or too many
  pub other-came : (length l ≡ asked l → ⊥) → (whole_of (known_in l h) && is_empty (left_in l h)) ≡ false
  other-came p =
      elim (dec_le (asked l) (length l)) [
        | yes w ↦
            let n = left-more w in
            let k : asked l < length l = more w in
            rw (all-came w, not-empty (left_in l h) (omega arith))
        | no w ↦ rw (not-all-came (omega arith))
      ]
    where
      more : asked l ≤ length l → asked l < length l
      more w = elim (dec_le (length l) (asked l)) [ yes v ↦ absurd (p (omega arith)) | no v ↦ omega arith ]
