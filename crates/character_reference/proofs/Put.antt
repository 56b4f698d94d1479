-- What `put_char` goes by: characters, by their length. Assumes nothing.
use Rattle.std.proofs.Common.{◌≡◌, List, [], ◌∷◌, ℕ, ◌+◌, ◌/◌, ◌<◌, ◌≤◌, arith, lt-ltb, le-ltb}
use Rattle.lent.specs.declared.Writer.{Writer}
use Rattle.lent.specs.Writer.{Writes}
use Rattle.utf8.specs.Utf8.{char_of, tail}
use Rattle.character_reference.specs.Written.{written_of}

module _ {v w : Writer} (c : ℕ) where
  pub one_byte : c < 0x80 → Writes (c ∷ []) v w → Writes (written_of c) v w
  unfolding written_of char_of
  one_byte h p = rw (lt-ltb c 0x110000 (omega arith), lt-ltb c 0x80 h) p

  pub two_bytes : (x : ℕ) → 0x80 ≤ c → c < 0x800 → x ≡ tail c → Writes ((0xC0 + c / 64) ∷ x ∷ []) v w → Writes (written_of c) v w
  unfolding written_of char_of
  two_bytes x h k e p = rw (lt-ltb c 0x110000 (omega arith), le-ltb c 0x80 h, lt-ltb c 0x800 k, ← e) p

  pub three-bytes : (x y : ℕ) → 0x800 ≤ c → c < 0x10000 → y ≡ tail (c / 64) → x ≡ tail c → Writes ((0xE0 + c / 4096) ∷ y ∷ x ∷ []) v w → Writes (written_of c) v w
  unfolding written_of char_of
  three-bytes x y h k e' e p = rw (lt-ltb c 0x110000 (omega arith), le-ltb c 0x80 (omega arith), le-ltb c 0x800 h, lt-ltb c 0x10000 k, ← e', ← e) p

  pub four_bytes : (x y z : ℕ) → 0x10000 ≤ c → c < 0x110000 → z ≡ tail (c / 4096) → y ≡ tail (c / 64) → x ≡ tail c → Writes ((0xF0 + c / 262144) ∷ z ∷ y ∷ x ∷ []) v w → Writes (written_of c) v w
  unfolding written_of char_of
  four_bytes x y z h k e'' e' e p = rw (lt-ltb c 0x110000 k, le-ltb c 0x80 (omega arith), le-ltb c 0x800 (omega arith), le-ltb c 0x10000 h, ← e'', ← e', ← e) p

  pub no-character : 0x110000 ≤ c → Writes (0xEF ∷ 0xBF ∷ 0xBD ∷ []) v w → Writes (written_of c) v w
  unfolding written_of
  no-character h p = rw (le-ltb c 0x110000 h) p
