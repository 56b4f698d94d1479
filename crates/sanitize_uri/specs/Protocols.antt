-- URLs whose scheme must be listed, RULES R11.5 (`sanitize_with_protocols`). Assumes nothing.
use Rattle.std.specs.Prelude.{Bool, true, List, [], ◌∷◌, ℕ, ◌+◌, eqb, take, Option, Some, None, if◌then◌else◌}
use Rattle.lent.specs.Bytes.{bytes, one_of, listed, mapped, lower}
use Rattle.sanitize_uri.specs.declared.Protocols.{Protocols}
use Rattle.sanitize_uri.specs.declared.Protocols.TheVariants.{Link, Image}
use Rattle.sanitize_uri.specs.Url.{sanitize_of}

-- a colon that comes before the first ? # or /, looked for in what stands from the place i on
unfoldable pub colon_from : ℕ → List ℕ → Option ℕ
colon_from i [] = None
colon_from i (b ∷ bs) =
    if eqb b 58 then Some i
    else (if one_of (bytes "?#/") b then None
    else colon_from (i + 1) bs)

unfoldable pub colon_of : List ℕ → Option ℕ
colon_of url = colon_from 0 url

abbrev pub link_schemes : List (List ℕ)
link_schemes = bytes "http" ∷ bytes "https" ∷ bytes "irc" ∷ bytes "ircs" ∷ bytes "mailto" ∷ bytes "xmpp" ∷ []

abbrev pub image_schemes : List (List ℕ)
image_schemes = bytes "http" ∷ bytes "https" ∷ []

abbrev pub schemes_of : Protocols → List (List ℕ)
schemes_of Link = link_schemes
schemes_of Image = image_schemes

-- what stands before the colon, in lower case, must be listed
abbrev pub allowed_at : List (List ℕ) → List ℕ → Option ℕ → Bool
allowed_at schemes url (Some n) = listed schemes (mapped lower (take n url))
allowed_at schemes url None = true

unfoldable pub is_allowed : List (List ℕ) → List ℕ → Bool
is_allowed schemes url = allowed_at schemes url (colon_of url)

-- the URL sanitized, or nothing. The URL is judged as it is given, before any byte is escaped; percent-encoded it would be judged alike (proofs/Judged.antt)
unfoldable pub sanitize_with_protocols_of : (apostrophes : Bool) → List (List ℕ) → List ℕ → List ℕ
sanitize_with_protocols_of apostrophes schemes url = if is_allowed schemes url then sanitize_of apostrophes url else []
