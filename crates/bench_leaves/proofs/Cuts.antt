-- Parts that stand one behind the other in a bundle, and its end. Assumes nothing.
use mathlib.Core.Path.{◌≡◌, refl, sym, ap, ◌∙◌}
use mathlib.Core.List.{List, [], ◌∷◌, ◌++◌}
use Prim.Native.Nat.{ℕ, ◌+◌, ◌-◌, ◌≤◌}
use native.Mathlib.Omega.{arith}
use lib.ListN.{length, take, drop}
use lib.Seq.{take-add, take-length}
use Rattle.std.specs.Prelude.{Some, None}
use Rattle.bundle_read.specs.Read.{Answer, number_of, answer_of}
use Rattle.bundle_parts.specs.declared.Reader.{Reader}
use Rattle.bundle_parts.specs.Feed.{Progress, stand_of, start_of, feed_of, end_of}
use Rattle.bundle_parts.specs.Late.{call_late}
use Rattle.bundle_parts.specs.Parts.{HasReadLate}
use Rattle.bundle_parts.proofs.Joined.{fed-snoc, joined_snoc}
use Rattle.bundle_parts.proofs.Parts.{ended}
use Rattle.bench_leaves.specs.Cut.{Cut}
use Rattle.bench_leaves.specs.Numbered.{HasNumberLate}

pub cut-none : (bundle t e : List ℕ) {r : Reader} → ((x y : List ℕ) → stand_of r x y ≡ start_of x y) → Cut bundle 0 t e t e r
cut-none bundle t e f = record { parts = []; joins = refl; stands = f t e }

pub cut-more : (bundle t e t₁ e₁ t₂ e₂ : List ℕ) (r r' : Reader) (at n : ℕ) → Cut bundle at t e t₁ e₁ r → stand_of r' t₂ e₂ ≡ feed_of (stand_of r t₁ e₁) (take (at + n - at) (drop at bundle)) → Cut bundle (at + n) t e t₂ e₂ r'
cut-more bundle t e t₁ e₁ t₂ e₂ r r' at n c p =
    let part = take n (drop at bundle) in
    let m : at + n - at ≡ n = omega arith in
    record {
      parts = c.parts ++ part ∷ [];
      joins = joined_snoc c.parts part ∙ rw (c.joins, take-add at n bundle);
      stands = p ∙ rw (m, c.stands, fed-snoc (start_of t e) c.parts part);
    }

pub cut-end : {bundle t e t' e' : List ℕ} (r : Reader) (at : ℕ) → length bundle ≤ at → at ≤ length bundle → Cut bundle at t e t' e' r → Cut bundle (length bundle) t e t' e' r
cut-end {bundle} r at h k c = let n : at ≡ length bundle = omega arith in record { parts = c.parts; joins = c.joins ∙ rw n; stands = c.stands }

module _ (bundle t e t₁ e₁ t₂ e₂ : List ℕ) (r r' : Reader) {q : Progress} (c : Cut bundle (length bundle) t e t₁ e₁ r) (h : stand_of r' t₂ e₂ ≡ end_of (stand_of r t₁ e₁)) (s : q ≡ r'.state.progress) where
  late : HasReadLate bundle t e (stand_of r' t₂ e₂)
  late = rw (h, c.stands, ← (c.joins ∙ take-length bundle)) (ended t e c.parts)

  pub late-number : {a : Answer} {n : ℕ} → q ≡ Some a → n ≡ number_of a → HasNumberLate bundle t e t₂ e₂ n
  late-number {a} p m =
      let d : Some (answer_of (call_late bundle (length t) (length e))) ≡ q = sym (s ∙ late.answer) in
      let g : a ≡ answer_of (call_late bundle (length t) (length e)) = cc in
      record { answer = m ∙ ap number_of g; text = late.text; events = late.events }

  pub never-more : {n : ℕ} → q ≡ None → HasNumberLate bundle t e t₂ e₂ n
  never-more p =
      let d : Some (answer_of (call_late bundle (length t) (length e))) ≡ q = sym (s ∙ late.answer) in
      let z : ◌≡◌ {A = ℕ} 0 1 = cc in
      absurd (omega arith)
