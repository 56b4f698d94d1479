-- URLs as the options say, and an address behind `mailto:`. Assumes nothing.
use Rattle.std.specs.Prelude.{if◌then◌else◌}
use mathlib.Core.Path.{◌≡◌, refl, ◌∙◌}
use mathlib.Core.Bool.{Bool, true, false, ◌&&◌, ◌||◌}
use mathlib.Core.List.{List, ◌++◌}
use Prim.Native.Nat.{ℕ}
use Rattle.lent.specs.Bytes.{bytes}
use Rattle.lent.specs.Fill.{Filled}
use Rattle.lent.proofs.Laws.{both}
use Rattle.encode.specs.Encode.{encode_byte, encode_of}
use Rattle.sanitize_uri.specs.Url.{sanitize_of, normalize_of, stays, url_byte}
use Rattle.sanitize_uri.specs.Protocols.{colon_from, colon_of, is_allowed, link_schemes, image_schemes, sanitize_with_protocols_of}
use Rattle.machine.specs.declared.Options.{Options}
use Rattle.machine.specs.Turn.{url_of}

-- ---- by the options

module _ (o : Options) (image : Bool) (s : List ℕ) where
  abbrev safe : List ℕ
  safe = sanitize_of o.escape_apostrophes s

  abbrev listed : List (List ℕ) → List ℕ
  listed schemes = sanitize_with_protocols_of o.escape_apostrophes schemes s

  pub any-protocol : o.allow_dangerous_protocol ≡ true → url_of o image s ≡ safe
  unfolding url_of
  any-protocol p = rw p

  pub of-link : o.allow_dangerous_protocol ≡ false → image ≡ false → url_of o image s ≡ listed link_schemes
  unfolding url_of
  of-link p q = on o.allow_any_img_src
    where
      on : (t : Bool) → (if o.allow_dangerous_protocol || (t && image) then safe else listed (if image then image_schemes else link_schemes)) ≡ listed link_schemes
      on true = rw (p, q)
      on false = rw (p, q)

  pub any-image : o.allow_dangerous_protocol ≡ false → image ≡ true → o.allow_any_img_src ≡ true → url_of o image s ≡ safe
  unfolding url_of
  any-image p q x = rw (p, q, x)

  pub of_image : o.allow_dangerous_protocol ≡ false → image ≡ true → o.allow_any_img_src ≡ false → url_of o image s ≡ listed image_schemes
  unfolding url_of
  of_image p q x = rw (p, q, x)

-- ---- mail

-- each byte of the scheme stays
sanitize-mail : (apostrophes : Bool) (s : List ℕ) → sanitize_of apostrophes (bytes "mailto:" ++ s) ≡ bytes "mailto:" ++ sanitize_of apostrophes s
unfolding sanitize_of encode_of encode_byte normalize_of stays url_byte
sanitize-mail true s = refl
sanitize-mail false s = refl

mail-allowed : (s : List ℕ) → is_allowed link_schemes (bytes "mailto:" ++ s) ≡ true
unfolding is_allowed colon_of colon_from
mail-allowed s = refl

sanitize-allowed : (apostrophes : Bool) (schemes : List (List ℕ)) (s : List ℕ) → is_allowed schemes s ≡ true → sanitize_with_protocols_of apostrophes schemes s ≡ sanitize_of apostrophes s
unfolding sanitize_with_protocols_of
sanitize-allowed apostrophes schemes s p = rw p

-- and the scheme is listed
pub mail-url : (o : Options) (s : List ℕ) → url_of o false (bytes "mailto:" ++ s) ≡ sanitize_of o.escape_apostrophes (bytes "mailto:" ++ s)
mail-url o s = on o.allow_dangerous_protocol refl
  where
    on : (t : Bool) → o.allow_dangerous_protocol ≡ t → url_of o false (bytes "mailto:" ++ s) ≡ sanitize_of o.escape_apostrophes (bytes "mailto:" ++ s)
    on true p = any-protocol o false (bytes "mailto:" ++ s) p
    on false p = of-link o false (bytes "mailto:" ++ s) p refl ∙ sanitize-allowed o.escape_apostrophes link_schemes (bytes "mailto:" ++ s) (mail-allowed s)

pub mailed : {d e f : List ℕ} {at p r : ℕ} (apostrophes : Bool) (s : List ℕ) → Filled d at (bytes "mailto:") e p → Filled e p (sanitize_of apostrophes s) f r → Filled d at (sanitize_of apostrophes (bytes "mailto:" ++ s)) f r
mailed apostrophes s x y = rw (sanitize-mail apostrophes s) (both x y)
