-- A signature byte by byte, and why labels that differ in theirs need not be compared. Assumes nothing.
use Rattle.std.proofs.Common.{fold, [], ◌∷◌, ◌≡◌, refl, sym, ap, ◌∙◌, Bool, true, false, true≢false, List, ℕ, bit_xor}
use Rattle.lent.specs.Bytes.{same}
use Rattle.lent.proofs.Same.{same-iff}
use Rattle.signature.specs.declared.Signature.{Signature}
use Rattle.signature.specs.Signature.{words, low_product, high_product, turn, mix, before, signature_from, signature_of}
use Rattle.signature.specs.Signed.{Differs}

-- ---- one byte

pub turn_is : (s : Signature) {p q : ℕ} → p ≡ low_product s.first → q ≡ high_product (bit_xor s.second p) → words (bit_xor s.second p) (bit_xor s.first q) ≡ turn s
unfolding turn
turn_is s e f = rw (f, e)

pub mix-is : (s : Signature) (b : ℕ) {t u : Signature} → t ≡ turn (words (bit_xor s.first b) s.second) → u ≡ turn t → u ≡ mix s b
unfolding mix
mix-is s b e f = f ∙ ap turn e

-- ---- the signature is a fold

folds : (s : Signature) (bs : List ℕ) → fold mix s bs ≡ signature_from s bs
unfolding signature_from
folds s [] = refl
folds s (b ∷ bs) = folds (mix s b) bs

pub signature-folds : (identity : List ℕ) → fold mix before identity ≡ signature_of identity
unfolding signature_of
signature-folds identity = folds before identity

-- ---- labels of two signatures

module _ (first second : ℕ) (s : Signature) where
  pub differs_none : Differs first second s false
  differs_none = record { other = λ p e. true≢false (sym p) }

pub unequal : (a b : List ℕ) → (a ≡ b → ⊥) → same a b ≡ false
unequal a b h = on (same a b) refl
  where
    on : (t : Bool) → same a b ≡ t → t ≡ false
    on true e = absurd (h ((same-iff a b).0 e))
    on false e = refl

-- so they are two identities
pub two : {first second : ℕ} {s : Signature} {r : Bool} (a b : List ℕ) → Differs first second s r → r ≡ true → s ≡ signature_of b → words first second ≡ signature_of a → a ≡ b → ⊥
two a b d t e f z = d.other t (f ∙ ap signature_of z ∙ sym e)
