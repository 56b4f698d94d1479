-- The reader in parts and the whole-file reader agree where no length fault is present, and where there is no other fault. Assumes nothing.
use Rattle.std.proofs.Common.{◌≡◌, refl, List, ℕ, ◌≤◌, arith, le-leb, length, Ok, Err}
use Rattle.std.proofs.Math.Decide.{dec_le}
use Rattle.bundle_block.specs.declared.Refusal.{Refusal}
use Rattle.bundle_block.specs.Block.{Verdict, ◌before◌}
use Rattle.bundle_block.proofs.Block.{both-good}
use Rattle.bundle_read.specs.Bundle.{judge_length, judge_header, judge_count, judge_text, judge_events, judge_bundle, text_in, events_in}
use Rattle.bundle_read.proofs.Bundle.{whole-blocks}
use Rattle.bundle_parts.specs.Late.{judge_text_came, judge_events_came, judge_came, judge_late, text_so_far, events_so_far}
use Rattle.bundle_parts.proofs.Ends.{asked, other-bad, texts-all, records-all}

before-good : (v : Verdict) → (v before (Ok tt)) ≡ v
before-good (Ok o) = refl
before-good (Err r) = refl

module _ (l : List ℕ) where
  -- a right length and count are the exact length
  pub exact-of : (judge_length l before judge_count l) ≡ Ok tt → length l ≡ asked l
  exact-of p =
      elim (dec_le (asked l) (length l)) [
        | yes a ↦
            elim (dec_le (length l) (asked l)) [
              | yes b ↦ omega arith
              | no b ↦ let q = other-bad l (λ e. b (omega arith)) in let z : ◌≡◌ {A = ℕ} 0 1 = cc in absurd (omega arith)
            ]
        | no a ↦ let q = other-bad l (λ e. a (omega arith)) in let z : ◌≡◌ {A = ℕ} 0 1 = cc in absurd (omega arith)
      ]

  module _ (p : length l ≡ asked l) where
    enough : 512 ≤ length l
    enough = omega arith

    texts-same : judge_text_came l ≡ judge_text l
    unfolding judge_text_came judge_text
    texts-same = rw (texts-all l enough (omega arith))

    records-same : judge_events_came l ≡ judge_events l
    unfolding judge_events_came judge_events
    records-same = rw (records-all l enough (omega arith))

    came_same : judge_came l ≡ (judge_header l before judge_text l before judge_events l)
    unfolding judge_came
    came_same = rw (le-leb 512 (length l) enough, texts-same, records-same)

    -- and what has come is what the bundle holds
    pub text_same : text_so_far l ≡ text_in l
    unfolding text_so_far text_in
    text_same = rw (le-leb 512 (length l) enough, texts-all l enough (omega arith))

    pub events-same : events_so_far l ≡ events_in l
    unfolding events_so_far events_in
    events-same = rw (le-leb 512 (length l) enough, records-all l enough (omega arith))

  -- no fault of the length: the same verdict, whatever is wrong with a block
  pub agree-lengths : judge_length l ≡ Ok tt → judge_count l ≡ Ok tt → judge_late l ≡ judge_bundle l
  unfolding judge_late judge_bundle
  agree-lengths p q =
      let e = exact-of (rw (p, q)) in
      rw (p, q, before-good (judge_came l)) (came_same e)

  -- block 0 is at fault, so that its count says nothing
  pub agree-header : {r : Refusal} → judge_length l ≡ Ok tt → judge_header l ≡ Err r → judge_late l ≡ judge_bundle l
  unfolding judge_late judge_bundle judge_came
  agree-header p q = rw (le-leb 512 (length l) (whole-blocks l {v = judge_length l} refl p), q, p)

  header-good : 512 ≤ length l → judge_came l ≡ Ok tt → judge_header l ≡ Ok tt
  unfolding judge_came
  header-good h p = (both-good (judge_header l) (judge_text_came l before judge_events_came l) (rw (le-leb 512 (length l) h) at p)).0

  agree-count : {r : Refusal} → judge_came l ≡ Ok tt → judge_length l ≡ Ok tt → judge_count l ≡ Err r → judge_late l ≡ judge_bundle l
  unfolding judge_late judge_bundle
  agree-count p a b = rw (p, a, b, header-good (whole-blocks l {v = judge_length l} refl a) p)

  agree-length : {r : Refusal} → judge_came l ≡ Ok tt → judge_length l ≡ Err r → judge_late l ≡ judge_bundle l
  unfolding judge_late judge_bundle
  agree-length p a = rw (p, a)

  -- no fault of a block: the same verdict, whatever is wrong with the length
  pub agree-blocks : judge_came l ≡ Ok tt → judge_late l ≡ judge_bundle l
  agree-blocks p = by (judge_length l) (judge_count l) refl refl
    where
      by : (u v : Verdict) → judge_length l ≡ u → judge_count l ≡ v → judge_late l ≡ judge_bundle l
      by (Ok o) (Ok o') a b = agree-lengths a b
      by (Ok o) (Err r) a b = agree-count p a b
      by (Err r) v a b = agree-length p a
