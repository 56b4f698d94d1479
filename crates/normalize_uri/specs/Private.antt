-- Said for inner functions, no part of what a URL becomes. Assumes nothing.
use Rattle.std.specs.Prelude.{List, [], ◌∷◌, ◌++◌, ℕ, zero, suc}
use Rattle.url_byte.specs.Private.{byte_of}

-- what the first n bytes become
unfoldable pub part_of : ℕ → List ℕ → List ℕ
part_of zero l = []
part_of (suc n) [] = []
part_of (suc n) (b ∷ bs) = byte_of (b ∷ bs) ++ part_of n bs
