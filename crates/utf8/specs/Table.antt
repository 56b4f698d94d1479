-- UTF-8 by RFC 3629, section 4: which bytes may follow which. Assumes nothing.
use Rattle.std.specs.Prelude.{Bool, true, false, ℕ, ◌-◌, eqb, ltb, if◌then◌else◌}
use Rattle.lent.specs.Bytes.{between}
use Rattle.utf8.specs.declared.Due.{Due}
use Rattle.utf8.specs.declared.Due.TheVariants.{First, More, Wrong}

-- what a first byte leaves due: the table of section 4
unfoldable pub after_first : ℕ → Due
after_first b =
    if between 0x00 0x7F b then First
    else (if between 0xC2 0xDF b then More 1 0x80 0xBF
    else (if eqb b 0xE0 then More 2 0xA0 0xBF
    else (if between 0xE1 0xEC b then More 2 0x80 0xBF
    else (if eqb b 0xED then More 2 0x80 0x9F
    else (if between 0xEE 0xEF b then More 2 0x80 0xBF
    else (if eqb b 0xF0 then More 3 0x90 0xBF
    else (if between 0xF1 0xF3 b then More 3 0x80 0xBF
    else (if eqb b 0xF4 then More 3 0x80 0x8F
    else Wrong))))))))

-- what is due behind one of `left` more bytes: a first byte where it was the last, else a tail, 80 to BF
abbrev pub after_more : ℕ → Due
after_more left = if ltb left 2 then First else More (left - 1) 0x80 0xBF

-- what is due behind the byte b, where d was due
abbrev pub next : Due → ℕ → Due
next First b = after_first b
next (More left lo hi) b = if between lo hi b then after_more left else Wrong
next Wrong b = Wrong

-- no character is left unfinished
abbrev pub is_whole : Due → Bool
is_whole First = true
is_whole (More left lo hi) = false
is_whole Wrong = false

-- a character's length by its first byte, 0 for a byte that is no first byte
unfoldable pub length_of : ℕ → ℕ
length_of b =
    if between 0x00 0x7F b then 1
    else (if between 0xC0 0xDF b then 2
    else (if between 0xE0 0xEF b then 3
    else (if between 0xF0 0xF7 b then 4
    else 0)))
