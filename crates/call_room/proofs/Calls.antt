-- With so much room no call that writes a text answers 9. Assumes nothing.
use Rattle.std.proofs.Common.{◌≡◌, Bool, true, false, not, List, ℕ, ◌*◌, ◌≤◌, ltb, length, if◌then◌else◌, Result, le_trans, arith, le-ltb}
use Rattle.utf8.specs.Utf8.{is_utf8}
use Rattle.encode_byte.specs.declared.Escaping.{Escaping}
use Rattle.encode_byte.specs.declared.Escaping.TheVariants.{Off}
use Rattle.encode.specs.Encode.{encode_of}
use Rattle.sanitize_uri.specs.Url.{normalize_of, sanitize_of}
use Rattle.sanitize_uri.specs.Protocols.{sanitize_with_protocols_of}
use Rattle.call_text_answer.specs.declared.Refusal.{Refusal}
use Rattle.call_text_answer.specs.Written.{number_of, choose, Wrote}
use Rattle.call_normalize.specs.declared.Url.{Url}
use Rattle.call_normalize.specs.Normalized as N
use Rattle.call_normalize.specs.Normalized.{HasNormalized}
use Rattle.call_room.specs.Room.{most_escaped, most_replaced, most_sanitized, most_normalized}
use Rattle.call_room.proofs.Escaped.{escaped-most, replaced-most}
use Rattle.call_room.proofs.Urls.{normalized-most, sanitized-most, listed-most}

never : (long valid : Bool) (n : ℕ) → n ≡ (if long then 1 else (if not valid then 2 else 0)) → n ≡ 9 → ⊥
never true valid n p q = omega arith
never false false n p q = omega arith
never false true n p q = omega arith

room-enough : (text result : List ℕ) (room n : ℕ) → n ≡ choose text result room 1 2 9 0 → length result ≤ room → n ≡ 9 → ⊥
unfolding choose
room-enough text result room n p h q =
    let l = le-ltb room (length result) h in
    never (ltb 64000 (length text)) (is_utf8 text) n (rw l at p) q

-- whatever is written
pub fits : {text result d e : List ℕ} {r : Result ℕ Refusal} → Wrote text result d e r → length result ≤ length d → number_of r ≡ 9 → ⊥
fits {text} {result} {d} {r = r} p h q = room-enough text result (length d) (number_of r) p.number h q

module _ {text d e : List ℕ} {r : Result ℕ Refusal} where
  pub escape-fits : (on : Escaping) → Wrote text (encode_of on text) d e r → most_escaped * length text ≤ length d → number_of r ≡ 9 → ⊥
  escape-fits on p h q = fits p (le_trans (escaped-most on text) h) q

  pub replace-fits : Wrote text (encode_of Off text) d e r → most_replaced * length text ≤ length d → number_of r ≡ 9 → ⊥
  replace-fits p h q = fits p (le_trans (replaced-most text) h) q

  pub sanitize-fits : (apostrophes : Bool) → Wrote text (sanitize_of apostrophes text) d e r → most_sanitized * length text ≤ length d → number_of r ≡ 9 → ⊥
  sanitize-fits apostrophes p h q = fits p (le_trans (sanitized-most apostrophes text) h) q

  -- sanitize_link, sanitize_image
  pub listed-fits : (apostrophes : Bool) (schemes : List (List ℕ)) → Wrote text (sanitize_with_protocols_of apostrophes schemes text) d e r → most_sanitized * length text ≤ length d → number_of r ≡ 9 → ⊥
  listed-fits apostrophes schemes p h q = fits p (le_trans (listed-most apostrophes schemes text) h) q

pub normalize-fits : {url d e : List ℕ} {r : Result Url Refusal} → HasNormalized url d e r → most_normalized * length url ≤ length d → N.number_of r ≡ 9 → ⊥
normalize-fits {url} {d} {r = r} p h q = room-enough url (normalize_of url) (length d) (N.number_of r) p.number (le_trans (normalized-most url) h) q
