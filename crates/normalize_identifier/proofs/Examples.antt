-- Identities as RULES R6.1 has them, computed. Assumes nothing.
use Rattle.std.proofs.Common.{◌≡◌, refl, [], ◌∷◌}
use Rattle.lent.specs.Bytes.{bytes}
use Rattle.normalize_identifier.specs.Identity.{blank, folded, identity_from, identity_of}

ends-trimmed : identity_of (bytes "  a ") ≡ bytes "A"
unfolding identity_of identity_from blank folded
ends-trimmed = refl

-- a, tab, CR, LF, b
run-of-blanks : identity_of (97 ∷ 9 ∷ 13 ∷ 10 ∷ 98 ∷ []) ≡ bytes "A B"
unfolding identity_of identity_from blank folded
run-of-blanks = refl

-- the inner space that the crate loses
inner-space-kept : identity_of (bytes "x y z") ≡ bytes "X Y Z"
unfolding identity_of identity_from blank folded
inner-space-kept = refl

-- é, and what stands beside the letters
others-kept : identity_of (195 ∷ 169 ∷ bytes "@[`{") ≡ 195 ∷ 169 ∷ bytes "@[`{"
unfolding identity_of identity_from blank folded
others-kept = refl
