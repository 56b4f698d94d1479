-- Words that only the contracts of private functions use. Assumes nothing.
use Rattle.std.specs.Prelude.{List, [], ◌∷◌, ℕ, suc, if◌then◌else◌}
use Rattle.std.specs.Int.Bits.{bit_or}
use Rattle.utf8.specs.Utf8.{is_ascii}

-- how many ASCII bytes a text begins with
unfoldable pub ascii_run : List ℕ → ℕ
ascii_run [] = 0
ascii_run (b ∷ bs) = if is_ascii b then suc (ascii_run bs) else 0

-- every bit that is set in h or in a byte
unfoldable pub bits_of : ℕ → List ℕ → ℕ
bits_of h [] = h
bits_of h (b ∷ bs) = bits_of (bit_or h b) bs
