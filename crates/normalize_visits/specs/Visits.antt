-- How many characters the walk over a URL visits, RULES R11.7 (`normalize` of `sanitize_uri.rs`). Assumes nothing.
use Rattle.std.specs.Prelude.{◌&&◌, List, [], ◌∷◌, ℕ, zero, suc, ◌-◌, eqb, if◌then◌else◌}
use Rattle.utf8.specs.Utf8.{length_of}
use Rattle.url_byte.specs.Byte.{two_alnum}

-- how many bytes a visit passes behind its first: two at a triple that is kept, else the rest of a character
unfoldable pub behind_of : List ℕ → ℕ
behind_of [] = 0
behind_of (b ∷ bs) = if eqb b 37 && two_alnum bs then 2 else length_of b - 1

-- the visits from here on, where the first n bytes were passed before
unfoldable pub visits_from : ℕ → List ℕ → ℕ
visits_from n [] = 0
visits_from zero (b ∷ bs) = suc (visits_from (behind_of (b ∷ bs)) bs)
visits_from (suc n) (b ∷ bs) = visits_from n bs

unfoldable pub visits_of : List ℕ → ℕ
visits_of url = visits_from 0 url
