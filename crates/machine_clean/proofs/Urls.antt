-- URLs and addresses: percent-encoded, bytes become ASCII. Assumes nothing.
use Rattle.std.specs.Prelude.{if◌then◌else◌}
use mathlib.Core.Path.{◌≡◌, refl}
use mathlib.Core.Bool.{Bool, true, false, not, ◌||◌, ◌&&◌}
use mathlib.Core.List.{List, [], ◌∷◌}
use Prim.Native.Nat.{ℕ, suc, ◌≤◌, ◌<◌}
use native.Mathlib.Omega.{arith}
use borrow.Author.Tests.{eqb-true}
use lib.Dec.{T, eqb, ltb, ltb→lt, lt→ltb}
use lib.ListN.{get_or}
use Rattle.lent.specs.Bytes.{all, mapped, lower, upper}
use Rattle.lent.proofs.Computed.{computed, and_left, and_right, and_both}
use Rattle.utf8.specs.Utf8.{is_ascii}
use Rattle.utf8.proofs.Laws.{at-most-F4}
use Rattle.url_byte.specs.Byte.{is_kept, stays, hex_upper, percent, url_byte}
use Rattle.encode_byte.specs.Byte.{escaping_of}
use Rattle.normalize_uri.specs.Url.{normalize_of}
use Rattle.sanitize_uri.specs.Url.{sanitize_of}
use Rattle.sanitize_uri.specs.Protocols.{link_schemes, image_schemes, is_allowed, sanitize_with_protocols_of}
use Rattle.normalize_identifier.specs.Identity.{blank, folded, identity_from, identity_of}
use Rattle.machine.specs.declared.Options.{Options}
use Rattle.machine.specs.Turn.{url_of}
use Rattle.machine.specs.Footnote.{address_of}
use Rattle.machine_clean.specs.Clean.{Valid}
use Rattle.machine_clean.proofs.Valid.{holds, none-valid, joined, ascii}
use Rattle.machine_clean.proofs.Texts.{either}
use Rattle.machine_clean.proofs.Encoded.{encoded}

-- ---- bytes

abbrev is_byte : ℕ → Bool
is_byte b = ltb b 256

low-bytes : (s : List ℕ) → ((k : ℕ) → get_or s k 0 ≤ 0xF4) → T (all is_byte s)
low-bytes [] h = tt
low-bytes (b ∷ s) h = let l = h 0 in and_both (is_byte b) (all is_byte s) (lt→ltb b 256 (omega arith)) (low-bytes s (λ k. h (suc k)))

are-bytes : {s : List ℕ} → Valid s → T (all is_byte s)
are-bytes {s} v = low-bytes s (at-most-F4 s (holds v))

-- ---- percent-encoding

percent-valid : (b : ℕ) → b < 256 → Valid (percent b)
unfolding percent hex_upper
percent-valid b h = ascii (percent b) (computed (λ b. all is_ascii (percent b)) 256 tt b h)

kept-valid : (b : ℕ) → b < 256 → is_kept b ≡ true → Valid (b ∷ [])
kept-valid b h e = ascii (b ∷ []) (and_both (is_ascii b) true (rw e at (computed (λ b. not (is_kept b) || is_ascii b) 256 tt b h)) tt)

-- what stays is ASCII
byte-valid : (b : ℕ) (s : List ℕ) → b < 256 → Valid (url_byte (stays (b ∷ s)) b)
unfolding url_byte stays
byte-valid b s h = on (eqb b 37) refl (stays (b ∷ s)) refl
  where
    on : (x : Bool) → eqb b 37 ≡ x → (y : Bool) → stays (b ∷ s) ≡ y → Valid (if y then b ∷ [] else percent b)
    on x p false q = percent-valid b h
    on true p true q = let e = eqb-true b 37 p in rw e (ascii (37 ∷ []) tt)
    on false p true q = kept-valid b h (rw p at q)

normalized : (s : List ℕ) → T (all is_byte s) → Valid (normalize_of s)
unfolding normalize_of
normalized [] t = none-valid
normalized (b ∷ s) t = joined (byte-valid b s (ltb→lt b 256 (and_left (is_byte b) (all is_byte s) t))) (normalized s (and_right (is_byte b) (all is_byte s) t))

sanitized : (apostrophes : Bool) (s : List ℕ) → T (all is_byte s) → Valid (sanitize_of apostrophes s)
unfolding sanitize_of
sanitized apostrophes s t = encoded (escaping_of true apostrophes) (normalized s t)

allowed : (apostrophes : Bool) (schemes : List (List ℕ)) (s : List ℕ) → T (all is_byte s) → Valid (sanitize_with_protocols_of apostrophes schemes s)
unfolding sanitize_with_protocols_of
allowed apostrophes schemes s t = either (is_allowed schemes s) (sanitized apostrophes s t) none-valid

pub url-valid : (o : Options) (image : Bool) {s : List ℕ} → Valid s → Valid (url_of o image s)
unfolding url_of
url-valid o image {s} v =
    either (o.allow_dangerous_protocol || (o.allow_any_img_src && image)) (sanitized o.escape_apostrophes s (are-bytes v))
    (allowed o.escape_apostrophes (if image then image_schemes else link_schemes) s (are-bytes v))

-- ---- addresses

changed : (f : ℕ → ℕ) → ((b : ℕ) → b < 256 → T (is_byte (f b))) → (b : ℕ) (s r : List ℕ) → T (all is_byte (b ∷ s)) → T (all is_byte r) → T (all is_byte (f b ∷ r))
changed f h b s r t u = and_both (is_byte (f b)) (all is_byte r) (h b (ltb→lt b 256 (and_left (is_byte b) (all is_byte s) t))) u

lowered : (s : List ℕ) → T (all is_byte s) → T (all is_byte (mapped lower s))
lowered [] t = tt
lowered (b ∷ s) t = changed lower (computed (λ b. is_byte (lower b)) 256 tt) b s (mapped lower s) t (lowered s (and_right (is_byte b) (all is_byte s) t))

identified : (begun gap : Bool) (s : List ℕ) → T (all is_byte s) → T (all is_byte (identity_from begun gap s))
unfolding identity_from folded
identified begun gap [] t = tt
identified begun gap (b ∷ s) t =
    let u = and_right (is_byte b) (all is_byte s) t in
    on (blank b) gap (identified begun begun s u) (changed upper (computed (λ b. is_byte (upper b)) 256 tt) b s (identity_from true false s) t (identified true false s u))
  where
    on : (x y : Bool) → T (all is_byte (identity_from begun begun s)) → T (all is_byte (upper b ∷ identity_from true false s))
        → T (all is_byte (if x then identity_from begun begun s else (if y then 32 ∷ upper b ∷ identity_from true false s else upper b ∷ identity_from true false s)))
    on true y p q = p
    on false true p q = q
    on false false p q = q

pub address-valid : (apostrophes : Bool) {label : List ℕ} → Valid label → Valid (address_of apostrophes label)
unfolding address_of identity_of
address-valid apostrophes {label} v = sanitized apostrophes (mapped lower (identity_of label)) (lowered (identity_of label) (identified false false label (are-bytes v)))
