-- Signatures of identities: what a search goes by before it compares. No answer depends on them. Assumes nothing.
use Rattle.std.specs.Prelude.{List, [], ◌∷◌, ℕ, ◌*◌, ◌/◌, ◌%◌}
use Rattle.std.specs.Int.Bits.{bit_xor}
use Rattle.signature.specs.declared.Signature.{Signature}

abbrev pub words : ℕ → ℕ → Signature
words first second = record { first = first; second = second }

-- half of a word, the lower or the upper, times a prime
abbrev pub low_product : ℕ → ℕ
low_product x = x % 0x1_0000_0000 * 0x9E37_79B1

abbrev pub high_product : ℕ → ℕ
high_product x = x / 0x1_0000_0000 * 0x85EB_CA77

-- the second word changes by the first, then the first by the second, and they change places
unfoldable pub turn : Signature → Signature
turn s = let first = bit_xor s.second (low_product s.first) in words first (bit_xor s.first (high_product first))

unfoldable pub mix : Signature → ℕ → Signature
mix s b = turn (turn (words (bit_xor s.first b) s.second))

-- the first digits of π, so that no one chose them
abbrev pub before : Signature
before = words 0x243F_6A88_85A3_08D3 0x1319_8A2E_0370_7344

unfoldable pub signature_from : Signature → List ℕ → Signature
signature_from s [] = s
signature_from s (b ∷ bs) = signature_from (mix s b) bs

unfoldable pub signature_of : List ℕ → Signature
signature_of identity = signature_from before identity
