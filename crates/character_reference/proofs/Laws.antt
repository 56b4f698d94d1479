-- The laws of character references: what the code's cases rest on, and what callers go by. Assumes nothing.
use Rattle.std.specs.Prelude.{is_some as has_code}
use Rattle.std.proofs.Common.{Option, Some, None, ◌≡◌, refl, sym, subst, ◌∙◌, Bool, true, false, not, ◌||◌, List, ℕ, ◌<◌, ◌≤◌, arith, lt-ltb, le-leb, ltb-false, leb-false, eqb, leb, ltb, lit≤, length}
use Rattle.std.specs.Prelude.{if◌then◌else◌}
use Rattle.std.proofs.Math.Option.{some}
use borrow.Author.Tests.{not-true}
use Rattle.lent.specs.Bytes.{between}
use Rattle.lent.specs.declared.Writer.{Writer}
use Rattle.lent.specs.Writer.{Writes}
use Rattle.lent.proofs.Laws.{and_left, and_right, or_left, or_right}
use Rattle.lent.proofs.Writing.{nothing}
use Rattle.character_reference.specs.declared.Names.{Names}
use Rattle.character_reference.specs.declared.Marker.{Marker}
use Rattle.character_reference.specs.declared.Marker.TheVariants.{Named, Decimal, Hexadecimal}
use Rattle.utf8.specs.Utf8.{char_of, replacement}
use Rattle.character_reference.specs.Reference.{is_replaced, code_of, are_digits, from_digits, numeral_of, named_of, value_of, stands_for, reference_for, is_some, or_nothing}
use Rattle.character_reference.specs.Written.{written_of}
use Rattle.character_reference.proofs.Entries.{either, Brief, named-short}
use Rattle.character_reference.proofs.Numbers.{inside}

-- ---- what a value's code can be

-- the controls among the numbers replaced
abbrev is_control : ℕ → Bool
is_control c = leb c 0x8 || eqb c 0xB || between 0xE 0x1F c || between 0x7F 0x9F c

module _ (c : ℕ) (kept : is_replaced c ≡ false) where
  kept-in-range : c < 0x110000
  unfolding is_replaced
  kept-in-range = omega (arith, ltb-false 0x10FFFF c (or_right (is_control c || between 0xD800 0xDFFF c) (ltb 0x10FFFF c) kept))

  no_surrogate : between 0xD800 0xDFFF c ≡ false
  unfolding is_replaced
  no_surrogate = or_right (is_control c) (between 0xD800 0xDFFF c) (or_left (is_control c || between 0xD800 0xDFFF c) (ltb 0x10FFFF c) kept)

  kept-scalar : (ltb c 0xD800 || between 0xE000 0x10FFFF c) ≡ true
  kept-scalar = go (ltb c 0xD800) refl
    where
      go : (t : Bool) → ltb c 0xD800 ≡ t → (ltb c 0xD800 || between 0xE000 0x10FFFF c) ≡ true
      go true e = rw e
      go false e =
          let low : 0xD800 ≤ c = ltb-false c 0xD800 e in
          let none : leb c 0xDFFF ≡ false = rw (le-leb 0xD800 c low) at no_surrogate in
          let last : c ≤ 0x10FFFF = omega (arith, kept-in-range) in
          rw (e, inside 0xE000 0x10FFFF c (leb-false c 0xDFFF none) last)

abbrev Kept : Option ℕ → Type 0
Kept (Some c) = is_replaced c ≡ false
Kept None = Unit {0}

replacement-kept : is_replaced 0xFFFD ≡ false
unfolding is_replaced
replacement-kept = refl

pub code-kept : (c : ℕ) → is_replaced (code_of c) ≡ false
unfolding code_of
code-kept c = go (is_replaced c) refl
  where
    go : (t : Bool) → is_replaced c ≡ t → is_replaced (if is_replaced c then 0xFFFD else c) ≡ false
    go true e = rw e replacement-kept
    go false e = rw e e

brief-kept : (v : Option ℕ) → Brief v → Kept v
brief-kept (Some c) b = not-true (is_replaced c) (and_left (not (is_replaced c)) (ltb c 0x10000) b)
brief-kept None b = tt

value-kept : (option : Names) (marker : Marker) (s : List ℕ) → Kept (value_of option marker s)
unfolding value_of numeral_of
value-kept option Named s = brief-kept (named_of option s) (named-short option s)
value-kept option Decimal s = either Kept (are_digits 10 7 s) {x = Some (code_of (from_digits 10 s))} {y = None} (code-kept (from_digits 10 s)) tt
value-kept option Hexadecimal s = either Kept (are_digits 16 6 s) {x = Some (code_of (from_digits 16 s))} {y = None} (code-kept (from_digits 16 s)) tt

-- ---- a value, by its marker

module _ (option : Names) (marker : Marker) (s : List ℕ) (v : Option ℕ) where
  pub by_name : marker ≡ Named → v ≡ named_of option s → v ≡ value_of option marker s
  unfolding value_of
  by_name m e = rw (m, e)

  pub by_digits : marker ≡ Decimal → v ≡ numeral_of 10 7 s → v ≡ value_of option marker s
  unfolding value_of
  by_digits m e = rw (m, e)

  pub by-hexadecimal-digits : marker ≡ Hexadecimal → v ≡ numeral_of 16 6 s → v ≡ value_of option marker s
  unfolding value_of
  by-hexadecimal-digits m e = rw (m, e)

  -- it is one exactly where its value is some code
  pub is-one-or-none : {x : Bool} → v ≡ value_of option marker s → x ≡ has_code v → x ≡ is_some (reference_for option marker s)
  unfolding reference_for
  is-one-or-none e p = p ∙ rw (← e) (elim v as (λ w. has_code w ≡ is_some (stands_for w)) [ Some c ↦ refl | None ↦ refl ])

  pub writes_nothing : {u : Writer} → v ≡ value_of option marker s → v ≡ None → Writes (or_nothing (reference_for option marker s)) u u
  unfolding reference_for
  writes_nothing e h = rw (← e, h) nothing

  module _ (c : ℕ) (e : v ≡ value_of option marker s) (h : v ≡ Some c) where
    -- the code of a value is none of the numbers replaced: it is a character's
    pub is-kept : is_replaced c ≡ false
    is-kept = subst Kept (sym e ∙ h) (value-kept option marker s)

    pub in-range : c < 0x110000
    in-range = kept-in-range c is-kept

    -- `utf8`'s `is_scalar`
    pub is-scalar : (ltb c 0xD800 || between 0xE000 0x10FFFF c) ≡ true
    is-scalar = kept-scalar c is-kept

    pub writes : {u w : Writer} → Writes (written_of c) u w → Writes (or_nothing (reference_for option marker s)) u w
    unfolding reference_for written_of
    writes p = rw (← e, h) (rw (lt-ltb c 0x110000 in-range) at p)

-- ---- how long a character is

pub record Short (s : List ℕ) : Type 0 where
  pub some_byte : 1 ≤ length s
  pub few_bytes : length s ≤ 4

pub short : (c : ℕ) → Short (char_of c)
unfolding char_of
short c =
    either Short (ltb c 0x80) (record { some_byte = lit≤ tt; few_bytes = lit≤ tt })
    (either Short (ltb c 0x800) (record { some_byte = lit≤ tt; few_bytes = lit≤ tt })
    (either Short (ltb c 0x10000) (record { some_byte = lit≤ tt; few_bytes = lit≤ tt }) (record { some_byte = lit≤ tt; few_bytes = lit≤ tt })))

-- what a reference gives is never empty, and at most four bytes
pub short-reference : (option : Names) (marker : Marker) (s b : List ℕ) → reference_for option marker s ≡ some b → Short b
unfolding reference_for
short-reference option marker s b p = go (value_of option marker s) p
  where
    go : (v : Option ℕ) → stands_for v ≡ some b → Short b
    go (Some c) q = let e : char_of c ≡ b = cc in rw e at (short c)
    go None q = let z : ◌≡◌ {A = ℕ} 0 1 = cc in absurd (omega arith)

-- so a value writes at most four bytes
pub at-most-four : (option : Names) (marker : Marker) (s : List ℕ) → length (or_nothing (reference_for option marker s)) ≤ 4
unfolding reference_for
at-most-four option marker s = go (value_of option marker s)
  where
    go : (v : Option ℕ) → length (or_nothing (stands_for v)) ≤ 4
    go (Some c) = (short c).few_bytes
    go None = lit≤ tt

-- and a name at most three
three : (c : ℕ) → ltb c 0x10000 ≡ true → length (char_of c) ≤ 3
unfolding char_of
three c h = either (λ (b : List ℕ). length b ≤ 3) (ltb c 0x80) (lit≤ tt) (either (λ (b : List ℕ). length b ≤ 3) (ltb c 0x800) (lit≤ tt) (rw h (lit≤ tt)))

pub name-at-most-three : (option : Names) (s : List ℕ) → length (or_nothing (reference_for option Named s)) ≤ 3
unfolding reference_for value_of
name-at-most-three option s = go (named_of option s) (named-short option s)
  where
    go : (v : Option ℕ) → Brief v → length (or_nothing (stands_for v)) ≤ 3
    go (Some c) b = three c (and_right (not (is_replaced c)) (ltb c 0x10000) b)
    go None b = lit≤ tt

-- and a number the character with its code, or U+FFFD
pub character : (c : ℕ) → char_of (code_of c) ≡ (if is_replaced c then replacement else char_of c)
unfolding code_of char_of
character c = go (is_replaced c)
  where
    go : (t : Bool) → char_of (if t then 0xFFFD else c) ≡ (if t then replacement else char_of c)
    go true = refl
    go false = refl
