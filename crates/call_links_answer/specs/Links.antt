-- A list of links in one text (RULES R22): what each gives, and which is the first that is at fault. Assumes nothing.
use Rattle.std.specs.Prelude.{Bool, ◌||◌, List, [], ◌∷◌, ◌++◌, ℕ, suc, ◌-◌, ltb, length, take, drop, if◌then◌else◌}
use Rattle.utf8.specs.Utf8.{inside}
use Rattle.sanitize_uri.specs.Protocols.{link_schemes, sanitize_with_protocols_of}

-- what a single call with the link schemes makes of a URL
abbrev pub link_of : (apostrophes : Bool) → List ℕ → List ℕ
link_of apostrophes url = sanitize_with_protocols_of apostrophes link_schemes url

-- what it makes of each URL: one begins where the one before it ends, the first at `from`
unfoldable pub links_from : (apostrophes : Bool) (text : List ℕ) (from : ℕ) (ends : List ℕ) → List (List ℕ)
links_from apostrophes text from [] = []
links_from apostrophes text from (e ∷ es) = link_of apostrophes (take (e - from) (drop from text)) ∷ links_from apostrophes text e es

-- all of them, one behind the other; and how long each is
abbrev pub joined : List (List ℕ) → List ℕ
joined [] = []
joined (s ∷ ss) = s ++ joined ss

abbrev pub lengths_of : List (List ℕ) → List ℕ
lengths_of [] = []
lengths_of (s ∷ ss) = length s ∷ lengths_of ss

-- ---- how many URLs, from the first on, are without a fault: the index of the first that has it, or how many there are

-- none ends below the one before it, or past a text of `size` bytes
unfoldable pub ordered : (size from : ℕ) (ends : List ℕ) → ℕ
ordered size from [] = 0
ordered size from (e ∷ es) = if ltb e from || ltb size e then 0 else suc (ordered size e es)

-- none ends inside a character
unfoldable pub uncut : (text ends : List ℕ) → ℕ
uncut text [] = 0
uncut text (e ∷ es) = if inside text e then 0 else suc (uncut text es)

-- each has room behind those before it
unfoldable pub fitting : (room : ℕ) → List (List ℕ) → ℕ
fitting room [] = 0
fitting room (s ∷ ss) = if ltb room (length s) then 0 else suc (fitting (room - length s) ss)
