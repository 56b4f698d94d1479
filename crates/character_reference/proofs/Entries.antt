-- The table, tested once as a whole: its names ascend, and each stands for a character of one to three bytes. Assumes nothing.
use Rattle.std.proofs.Common.{Option, Some, None, ◌≡◌, refl, Bool, true, false, not, cond, ◌&&◌, List, [], ◌∷◌, ℕ, ltb}
use Rattle.lent.specs.Bytes.{same}
use Rattle.lent.proofs.Laws.{and_left, and_right}
use Rattle.character_reference.specs.declared.Names.{Names}
use Rattle.character_reference.specs.declared.Names.TheVariants.{Html4, Html5}
use Rattle.character_reference.specs.Names.{names}
use Rattle.character_reference.specs.Reference.{is_replaced, lookup, names_of, named_of}
use Rattle.character_reference.specs.Table.{order_of, is_ascending}

-- `Ascent.ascending` is the rule at each two entries
pub names-ascend : is_ascending names ≡ true
unfolding names is_ascending order_of
names-ascend = refl

-- ---- what a name stands for

abbrev pub is_short : ℕ → Bool
is_short c = not (is_replaced c) && ltb c 0x10000

abbrev are_short : List (List ℕ × ℕ) → Bool
are_short [] = true
are_short (entry ∷ entries) = is_short entry.1 && are_short entries

names-are-short : are_short names ≡ true
unfolding names is_replaced
names-are-short = refl

with-both-options : (option : Names) → are_short (names_of option) ≡ true
unfolding names_of is_replaced
with-both-options Html4 = names-are-short
with-both-options Html5 = names-are-short

-- the rule at each entry
abbrev pub Brief : Option ℕ → Type 0
Brief (Some c) = is_short c ≡ true
Brief None = Unit {0}

pub either : {A : Type 0} (P : A → Type 0) (t : Bool) {x y : A} → P x → P y → P (cond t x y)
either P true p q = p
either P false p q = q

found-short : (entries : List (List ℕ × ℕ)) (s : List ℕ) → are_short entries ≡ true → Brief (lookup entries s)
unfolding lookup
found-short [] s p = tt
found-short (entry ∷ entries) s p =
    either Brief (same s entry.0) {x = Some entry.1} {y = lookup entries s}
    (and_left (is_short entry.1) (are_short entries) p)
    (found-short entries s (and_right (is_short entry.1) (are_short entries) p))

pub named-short : (option : Names) (s : List ℕ) → Brief (named_of option s)
unfolding named_of
named-short option s = found-short (names_of option) s (with-both-options option)
