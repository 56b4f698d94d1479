-- From the reader's answer to its number; two results that meet a leaf's promise are equal. Assumes nothing.
use mathlib.Core.Path.{◌≡◌, sym, ap, ◌∙◌}
use mathlib.Core.List.{List}
use Prim.Native.Nat.{ℕ}
use Rattle.lent.specs.Fill.{Filled}
use Rattle.bundle_read.specs.Read.{Answer, number_of, HasRead}
use Rattle.bundle_read.proofs.Bundle as L
use Rattle.bench_leaves.specs.Numbered.{HasNumber, HasNumberLate}

pub numbers : {bundle t e u f : List ℕ} {a : Answer} {r : ℕ} → HasRead bundle t e u f a → r ≡ number_of a → HasNumber bundle t e u f r
numbers {a = a} p q = record { answer = a; reads = p; number = q }

-- leaf_encode, leaf_sanitize
pub leaves : {d s e f : List ℕ} {at r t : ℕ} → Filled d at s e r → Filled d at s f t → (r ≡ t) × (e ≡ f)
leaves p q = (p.place ∙ sym q.place, p.bytes ∙ sym q.bytes)

pub leaf_read_bundle : {bundle t e u f u' f' : List ℕ} {r s : ℕ} → HasNumber bundle t e u f r → HasNumber bundle t e u' f' s → (r ≡ s) × (u ≡ u') × (f ≡ f')
leaf_read_bundle p q = let k = L.unique p.reads q.reads in (p.number ∙ ap number_of k.0 ∙ sym q.number, k.1, k.2)

pub leaf_read_parts : {bundle t e u f u' f' : List ℕ} {r s : ℕ} → HasNumberLate bundle t e u f r → HasNumberLate bundle t e u' f' s → (r ≡ s) × (u ≡ u') × (f ≡ f')
leaf_read_parts p q = (p.answer ∙ sym q.answer, p.text ∙ sym q.text, p.events ∙ sym q.events)
